-- Facts on what is drawn while a phrase is read.
use Rattle.std.proofs.Common.{◌≡◌, ℕ, ◌+◌, Bool, true, false, ◌++◌, append_assoc, List, [], ◌∷◌, length, option_map, refl, sym, ◌∙◌, ap, subst, arith}
use Rattle.std.proofs.lemmas.List.{append-nil, length-map}
use Rattle.line_parts.specs.declared.highlight.CmdKind.TheVariants.{Other}
use Rattle.line_keys.specs.Count.{count_prompt}
use Rattle.line_keys.specs.Model.Display.{Display}
use Rattle.line_keys.specs.Model.Draft.{hint_shown}
use Rattle.line_keys.specs.Model.Drawing.{Drew, DrewLine, DrewNothing, behind_prompt, drawn_if, with_hint}
use Rattle.line_keys.specs.Model.Frame.{Frame}
use Rattle.line_keys.specs.Item.{Item}
use Rattle.line_keys.specs.Model.ShownLine.{Redraws}
use Rattle.line_keys.specs.declared.editor_state.EditorState as editors
use Rattle.line_keys.specs.declared.keys.KeyEvent.{KeyEvent}
use Rattle.line_input.specs.Reading.{DrewCount, DrewCounting}
use Rattle.line_input.specs.ItemShown.{DrewCounts, DrewSoFar, ItemShown, any_drawn, counting_on, drawing_shown, drawn_over, kept, last_drawn, none_shown, shows_count, shows_line, shown_with, times_drawn}
use Rattle.line_input.proofs.DrawnTwiceLemmas.{behind_then, colorless, line_kept, line_then}

-- one is drawn for each key of a count
pub counting-each : (front keys : List KeyEvent) → length (counting_on front keys) ≡ length keys
counting-each front [] = refl
counting-each front (k ∷ more) = let rest = counting-each (front ++ k ∷ []) more in omega (arith, rest)

-- each draws the line
pub counting-times : (front keys : List KeyEvent) (behind : List ItemShown) → times_drawn (counting_on front keys ++ behind) ≡ length keys + times_drawn behind
counting-times front [] behind = omega arith
counting-times front (k ∷ more) behind = let rest = counting-times (front ++ k ∷ []) more behind in omega (arith, rest)

-- the last one shows the whole count
pub counting-last : (front : List KeyEvent) (k : KeyEvent) (more : List KeyEvent) → last_drawn (counting_on front (k ∷ more)) ≡ shows_count (front ++ (k ∷ more))
counting-last front k [] = refl
counting-last front k (k' ∷ more) =
    ap (λ s. drawn_over (shows_count (front ++ k ∷ [])) s) (counting-last (front ++ k ∷ []) k' more)
    ∙ ap (λ ks. shows_count ks) (append_assoc front (k ∷ []) (k' ∷ more))

over-line : (first last : ItemShown) → drawn_over first (drawn_over shows_line last) ≡ drawn_over shows_line last
over-line first kept = refl
over-line first (shows_count keys) = refl
over-line first shows_line = refl

over-none : (last : ItemShown) → last ≡ drawn_over kept last
over-none kept = refl
over-none (shows_count keys) = refl
over-none shows_line = refl

-- what is drawn at last behind a line that is drawn
pub last-behind : (before behind : List ItemShown) → last_drawn (before ++ (shows_line ∷ behind)) ≡ drawn_over shows_line (last_drawn behind)
last-behind [] behind = refl
last-behind (first ∷ more) behind = ap (λ s. drawn_over first s) (last-behind more behind) ∙ over-line first (last_drawn behind)

-- where nothing is drawn at last, nothing is drawn at all
pub record Undrawn (shown : List ItemShown) : Type 0 where
  pub any : any_drawn shown ≡ false
  pub times : times_drawn shown ≡ 0

over-kept : (first last : ItemShown) → drawn_over first last ≡ kept → (first ≡ kept) × (last ≡ kept)
over-kept first kept is = (is, refl)
over-kept first (shows_count keys) is = absurd (cc)
over-kept first shows_line is = absurd (cc)

pub none-last : (shown : List ItemShown) → last_drawn shown ≡ kept → Undrawn shown
none-last [] is = record { any = refl; times = refl }
none-last (kept ∷ more) is =
    let u = none-last more (over-kept kept (last_drawn more) is).1 in
    record { any = u.any; times = u.times }
none-last (shows_count keys ∷ more) is = absurd (let no = (over-kept (shows_count keys) (last_drawn more) is).0 in cc)
none-last (shows_line ∷ more) is = absurd (let no = (over-kept shows_line (last_drawn more) is).0 in cc)

pub none-any : (shown : List ItemShown) → any_drawn shown ≡ false → Undrawn shown
none-any [] is = record { any = refl; times = refl }
none-any (kept ∷ more) is = let u = none-any more is in record { any = u.any; times = u.times }
none-any (shows_count keys ∷ more) is = absurd (cc)
none-any (shows_line ∷ more) is = absurd (cc)

-- nothing is drawn after items that nothing is drawn after
pub quiet-any : (items : List Item) → any_drawn (none_shown items) ≡ false
quiet-any [] = refl
quiet-any (i ∷ more) = quiet-any more

pub quiet-each : (items : List Item) → length (none_shown items) ≡ length items
quiet-each items = length-map items (λ _. kept)

pub quiet-last : (items : List Item) → last_drawn (none_shown items) ≡ kept
quiet-last [] = refl
quiet-last (i ∷ more) = ap (λ s. drawn_over kept s) (quiet-last more)

module _ {X : Type 0} (e : editors.Ghosts X) where
  -- nothing was drawn
  pub drew_none : (shown : List ItemShown) (old new : X) → any_drawn shown ≡ false → DrewNothing e old new → DrewCounts e shown old new
  drew_none shown old new none drew = subst (λ b. Drew e (times_drawn shown) (drawn_if b) old new) (sym none) drew

  pub so_far_none : (shown : List ItemShown) (old new : X) → last_drawn shown ≡ kept → DrewNothing e old new → DrewSoFar e shown old new
  so_far_none shown old new none drew = subst (λ s. Drew e (times_drawn shown) (drawing_shown s) old new) (sym none) drew

  -- behind an item that nothing is drawn after
  pub so_far_kept : (shown : List ItemShown) (old new : X) → DrewSoFar e shown old new → DrewSoFar e (kept ∷ shown) old new
  so_far_kept shown old new drew = subst (λ s. Drew e (times_drawn shown) (drawing_shown s) old new) (over-none (last_drawn shown)) drew

  -- what is drawn of a phrase stays where nothing is drawn behind it
  pub counts_kept : (shown : List ItemShown) (old mid new : X) → (e.draft new).line ≡ (e.draft mid).line → (e.draft new).hint ≡ (e.draft mid).hint
      → DrewNothing e mid new → DrewCounts e shown old mid → DrewCounts e shown old new
  counts_kept shown old mid new line hint undrew = by_any (any_drawn shown)
    where
      by_any : (b : Bool) → Drew e (times_drawn shown) (drawn_if b) old mid → Drew e (times_drawn shown) (drawn_if b) old new
      by_any true drew =
          let same : hint_shown (e.draft new) ≡ hint_shown (e.draft mid) = ap (λ h. option_map (λ s. s.display) h) hint in
          subst (λ t. DrewLine e (times_drawn shown) t Other old new) (sym same)
          (line_kept e old mid new (times_drawn shown) (hint_shown (e.draft mid)) Other undrew line drew)
      by_any false drew = record { display = undrew.display ∙ drew.display; redraws = undrew.redraws ∙ drew.redraws }

  module _ (old mid new : X) (frame : Frame e old mid) (undrew : DrewNothing e old mid) where
    unlit_before : (e.display old).surface.colors ≡ false → (e.display mid).lit ≡ (e.display old).lit
    unlit_before none = ap (λ (d : Display). d.lit) undrew.display

    none_before : Redraws e 0 0 old mid
    none_before = λ below. (omega (arith, undrew.redraws), omega (arith, undrew.redraws))

    -- what is drawn where nothing was drawn before
    drawn_after : (n : ℕ) (shown : ItemShown) → Drew e n (drawing_shown shown) mid new → Drew e n (drawing_shown shown) old new
    drawn_after n kept drew = record { display = drew.display ∙ undrew.display; redraws = drew.redraws ∙ undrew.redraws }
    drawn_after n (shows_count keys) drew =
        let times : 0 + n ≡ n = omega arith in
        subst (λ m. Drew e m (behind_prompt (count_prompt keys)) old new) times (behind_then e old mid new frame unlit_before 0 n (count_prompt keys) none_before drew)
    drawn_after n shows_line drew =
        let times : 0 + n ≡ n = omega arith in
        subst (λ m. Drew e m with_hint old new) times (line_then e old mid new frame unlit_before 0 n (hint_shown (e.draft new)) Other none_before drew)

    pub so_far_after : (shown : List ItemShown) → DrewSoFar e shown mid new → DrewSoFar e shown old new
    so_far_after shown drew = drawn_after (times_drawn shown) (last_drawn shown) drew

    pub counts_after : (shown : List ItemShown) → DrewCounts e shown mid new → DrewCounts e shown old new
    counts_after shown = by_any (any_drawn shown)
      where
        by_any : (b : Bool) → Drew e (times_drawn shown) (drawn_if b) mid new → Drew e (times_drawn shown) (drawn_if b) old new
        by_any true drew = drawn_after (times_drawn shown) shows_line drew
        by_any false drew = drawn_after (times_drawn shown) kept drew

  -- the keys of a count are drawn
  pub so_far_counting : (k : KeyEvent) (more : List KeyEvent) (old new : X) → DrewCounting e (k ∷ more) old new → DrewSoFar e (counting_on [] (k ∷ more)) old new
  so_far_counting k more old new drew =
      let shown : List ItemShown = counting_on [] (k ∷ more) in
      let times : times_drawn shown ≡ length (k ∷ more) =
      ap times_drawn (sym (append-nil shown)) ∙ counting-times [] (k ∷ more) [] ∙ omega arith in
      let P : ℕ → Type 0 = λ n. Drew e n (behind_prompt (count_prompt (k ∷ more))) old new in
      let Q : ItemShown → Type 0 = λ s. Drew e (times_drawn shown) (drawing_shown s) old new in
      subst Q (sym (counting-last [] k more)) (subst P (sym times) drew)

  module _ (old mid new : X) (frame : Frame e old mid) (k : KeyEvent) (more : List KeyEvent) (count : DrewCount e (k ∷ more) old mid) where
    abbrev counted : ℕ
    counted = length (k ∷ more) + 1

    unlit : (e.display old).surface.colors ≡ false → (e.display mid).lit ≡ (e.display old).lit
    unlit none = count.lit ∙ colorless e (e.environment old) (e.display old) (e.draft mid).line Other none

    -- how often the line is drawn for a count and for what is behind it
    all_times : (behind : List ItemShown) → times_drawn (shown_with (k ∷ more) behind) ≡ counted + times_drawn behind
    all_times behind = counting-times [] (k ∷ more) (shows_line ∷ behind) ∙ omega arith

    -- a count is drawn, and what is behind it
    pub counts_then : (behind : List ItemShown) → (e.draft new).line ≡ (e.draft mid).line
        → (any_drawn behind ≡ false → (e.draft new).hint ≡ (e.draft mid).hint)
        → DrewCounts e behind mid new → DrewCounts e (shown_with (k ∷ more) behind) old new
    counts_then behind line hint drew =
        subst (λ n. Drew e n with_hint old new) (sym (all_times behind)) (by_any (any_drawn behind) refl)
      where
        by_any : (b : Bool) → any_drawn behind ≡ b → Drew e (counted + times_drawn behind) with_hint old new
        by_any true is =
            line_then e old mid new frame unlit counted (times_drawn behind) (hint_shown (e.draft new)) Other count.redraws
            (subst (λ b. Drew e (times_drawn behind) (drawn_if b) mid new) is drew)
        by_any false is =
            let nothing_drew : DrewNothing e mid new = subst (λ b. Drew e (times_drawn behind) (drawn_if b) mid new) is drew in
            let none = (none-any behind is).times in
            let same : hint_shown (e.draft new) ≡ hint_shown (e.draft mid) = ap (λ h. option_map (λ s. s.display) h) (hint is) in
            let there : DrewLine e counted (hint_shown (e.draft mid)) Other old new =
            line_kept e old mid new counted (hint_shown (e.draft mid)) Other nothing_drew line count in
            let times : counted ≡ counted + times_drawn behind = omega (arith, none) in
            subst (λ n. Drew e n with_hint old new) times (subst (λ t. DrewLine e counted t Other old new) (sym same) there)

    -- the same of items that were read so far
    pub so_far_then : (behind : List ItemShown) → (e.draft new).line ≡ (e.draft mid).line
        → (any_drawn behind ≡ false → (e.draft new).hint ≡ (e.draft mid).hint)
        → DrewSoFar e behind mid new → DrewSoFar e (shown_with (k ∷ more) behind) old new
    so_far_then behind line hint drew =
        let P : ℕ → Type 0 = λ n. Drew e n (drawing_shown (drawn_over shows_line (last_drawn behind))) old new in
        let Q : ItemShown → Type 0 = λ s. Drew e (times_drawn (shown_with (k ∷ more) behind)) (drawing_shown s) old new in
        subst Q (sym (last-behind (counting_on [] (k ∷ more)) behind)) (subst P (sym (all_times behind)) (by_last (last_drawn behind) refl))
      where
        by_last : (s : ItemShown) → last_drawn behind ≡ s → Drew e (counted + times_drawn behind) (drawing_shown (drawn_over shows_line s)) old new
        by_last kept is =
            let nothing_drew : DrewNothing e mid new = subst (λ s. Drew e (times_drawn behind) (drawing_shown s) mid new) is drew in
            let undrawn = none-last behind is in
            let none = undrawn.times in
            let same : hint_shown (e.draft new) ≡ hint_shown (e.draft mid) = ap (λ h. option_map (λ s. s.display) h) (hint undrawn.any) in
            let there : DrewLine e counted (hint_shown (e.draft mid)) Other old new =
            line_kept e old mid new counted (hint_shown (e.draft mid)) Other nothing_drew line count in
            let times : counted ≡ counted + times_drawn behind = omega (arith, none) in
            subst (λ n. Drew e n with_hint old new) times (subst (λ t. DrewLine e counted t Other old new) (sym same) there)
        by_last (shows_count keys) is =
            behind_then e old mid new frame unlit counted (times_drawn behind) (count_prompt keys) count.redraws
            (subst (λ s. Drew e (times_drawn behind) (drawing_shown s) mid new) is drew)
        by_last shows_line is =
            line_then e old mid new frame unlit counted (times_drawn behind) (hint_shown (e.draft new)) Other count.redraws
            (subst (λ s. Drew e (times_drawn behind) (drawing_shown s) mid new) is drew)
