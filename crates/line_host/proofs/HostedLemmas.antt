-- Facts on what comes of a session's line.
use Rattle.std.proofs.Common.{◌≡◌, ℕ, Bool, true, false, if◌then◌else◌, List, Option, Some, None, is_some, option_map, Result, Ok, Err, IfOk, MatchResult, is_ok, OnErr, OnOk, ◌∙◌, ap, refl, string_bytes, subst, sym}
use Rattle.line_config.specs.declared.error.ReadlineError.{ReadlineError}
use Rattle.line_parts.specs.Environment.{Environment}
use Rattle.std.specs.Str.{IsUtf8}
use Rattle.line_keys.specs.Command.{Command}
use Rattle.line_editor.specs.Binding.{Bound, Rebinds, answers}
use Rattle.line_editor.specs.Event.{Chord}
use Rattle.line_host.specs.Bound.{BoundCommands, bound}
use Rattle.line_session.specs.Heard.{BeginsReading, Feeds, turn_of}
use Rattle.line_session.specs.Sitting.{Sitting, suspends}
use Rattle.line_session.specs.declared.editor.Fed.{Fed}
use Rattle.line_session.specs.declared.editor.Fed.TheVariants as feds
use Rattle.line_session.specs.declared.editor.Heard.{Heard}
use Rattle.line_host.specs.Hosted.{BindsKeys, CameTo, Hosted, TellsStatus, with_editor}
use Rattle.line_host.specs.Names.{command_named}
use Rattle.line_host.specs.Status.{IsDoneOrFault, ReportsFault, MayBind}
use Rattle.line_host.specs.declared.status.Status.{Status}
use Rattle.line_host.specs.declared.status.Status.TheVariants as status

-- where one of two that agree is there, so is the other
pub not_none : {A B C : Type 0} (f : A → C) (g : B → C) (one : Option A) (other : Option B) → option_map f one ≡ option_map g other → is_some one ≡ true → other ≡ None → ⊥
not_none f g None other same is none = cc
not_none f g (Some x) None same is none = cc
not_none f g (Some x) (Some y) same is none = cc

-- what holds of an answer holds of it where its error was mapped
pub mapped_ok : {T E : Type 0} (D : Type 0) (P : T → Type 0) (R : E → Type 0) (told : Result T E) (t : T)
    → MatchResult told (λ x. ◌≡◌ {A = Result T D} (Ok t) (Ok x)) R → is_ok {T = T} {E = D} (Ok t) ≡ is_ok told → IfOk told P → P t
mapped_ok D P R (Ok x) t same alike holds = subst (λ r. IfOk r P) (sym same) holds
mapped_ok D P R (Err e) t same alike holds = cc

-- an option that is mapped to none is none
pub none_mapped : {A C : Type 0} (f : A → C) (one : Option A) → option_map f one ≡ None → one ≡ None
none_mapped f None none = refl
none_mapped f (Some x) none = cc

module _ {H : Type 0} (answers : H → List (List ℕ) → Environment) where
  -- what came of a line that began, by what is equal
  pub began_alike : (bound bound' : Bound) (prompt left right : List ℕ) (old old' new : Sitting H) (told : Result Fed ReadlineError) → bound ≡ bound' → old ≡ old'
      → BeginsReading answers bound prompt left right old new told → BeginsReading answers bound' prompt left right old' new told
  began_alike bound bound' prompt left right old old' new told same_bound same begins =
      subst (λ b. BeginsReading answers b prompt left right old' new told) same_bound (subst (λ o. BeginsReading answers bound prompt left right o new told) same begins)

  -- and of the texts that are equal
  pub begins_alike : (bound : Bound) (prompt prompt' left left' right right' : List ℕ) (old new : Sitting H) (told : Result Fed ReadlineError)
      → prompt ≡ prompt' → left ≡ left' → right ≡ right' → BeginsReading answers bound prompt left right old new told
      → BeginsReading answers bound prompt' left' right' old new told
  begins_alike bound prompt prompt' left left' right right' old new told same_prompt same_left same_right begins =
      subst (λ p. BeginsReading answers bound p left' right' old new told) same_prompt
      (subst (λ l. BeginsReading answers bound prompt l right' old new told) same_left
      (subst (λ r. BeginsReading answers bound prompt left r old new told) same_right begins))

  -- what came of what was heard, by what is equal
  pub feeds_alike : (bound bound' : Bound) (heard : Heard) (old old' new : Sitting H) (told : Result Fed ReadlineError) → bound ≡ bound' → old ≡ old'
      → Feeds answers bound (turn_of heard old.decoder) old new told → Feeds answers bound' (turn_of heard old'.decoder) old' new told
  feeds_alike bound bound' heard old old' new told same_bound same feeds =
      subst (λ b. Feeds answers b (turn_of heard old'.decoder) old' new told) same_bound
      (subst (λ o. Feeds answers bound (turn_of heard o.decoder) o new told) same feeds)

  -- what a status tells of a line is what came of it
  pub tells_came : (Comes : Sitting H → Fed → Type 0) (Left : Sitting H → Type 0) (old mid new : Hosted H) (fed : Result Fed ReadlineError) (came : Status)
      → IfOk fed (Comes mid.editor) → mid ≡ with_editor mid.editor old → OnErr fed (Left mid.editor) → TellsStatus fed mid new came
      → CameTo (Comes new.editor) (Left new.editor) old new came
  tells_came Comes Left old mid new (Ok feds.More) came comes stays left told =
      subst (λ n. CameTo (Comes n.editor) (Left n.editor) old n came) (sym told.1)
      (subst (λ s. CameTo (Comes mid.editor) (Left mid.editor) old mid s) (sym told.0) (by_suspended (suspends mid.editor) refl))
    where
      by_suspended : (b : Bool) → suspends mid.editor ≡ b → CameTo (Comes mid.editor) (Left mid.editor) old mid (if b then status.Suspended else status.Done)
      by_suspended true is = (comes, is, stays)
      by_suspended false is = (comes, is, stays)
  tells_came Comes Left old mid new (Ok (feds.Submitted text)) came comes stays left told =
      subst (λ n. CameTo (Comes n.editor) (Left n.editor) old n came) (sym told.1)
      (subst (λ s. CameTo (Comes mid.editor) (Left mid.editor) old (record mid { submitted = Some (string_bytes text) }) s) (sym told.0)
      (text, comes, ap (λ (m : Hosted H). record m { submitted = Some (string_bytes text) }) stays))
  tells_came Comes Left old mid new (Ok feds.Ended) came comes stays left told =
      subst (λ n. CameTo (Comes n.editor) (Left n.editor) old n came) (sym told.1) (subst (λ s. CameTo (Comes mid.editor) (Left mid.editor) old mid s) (sym told.0) (comes, stays))
  tells_came Comes Left old mid new (Ok feds.Interrupted) came comes stays left told =
      subst (λ n. CameTo (Comes n.editor) (Left n.editor) old n came) (sym told.1) (subst (λ s. CameTo (Comes mid.editor) (Left mid.editor) old mid s) (sym told.0) (comes, stays))
  tells_came Comes Left old mid new (Err error) came comes stays left told =
      subst (λ n. CameTo (Comes n.editor) (Left n.editor) old n came) (sym told.1) (by_fault came told.0)
    where
      by_fault : (came : Status) → ReportsFault came → CameTo (Comes mid.editor) (Left mid.editor) old mid came
      by_fault status.NoMemory fault = (tt, left, stays)
      by_fault status.Failed fault = (tt, left, stays)
      by_fault _ fault = absurd fault

-- what holds of an answer, and what holds where there is one
pub both : {T E : Type 0} (P : T → Type 0) (Q : Type 0) (told : Result T E) → IfOk told P → OnOk told Q → IfOk told (λ t. P t × Q)
both P Q (Ok t) one other = (one, other)
both P Q (Err e) one other = tt

-- a status that tells whether it was done
pub done_or_fault : {T E : Type 0} (done : Result T E) (came : Status) → OnOk done (came ≡ status.Done) → OnErr done (ReportsFault came) → IsDoneOrFault came
done_or_fault (Ok t) came is fault = subst IsDoneOrFault (sym is) tt
done_or_fault (Err e) status.NoMemory is fault = tt
done_or_fault (Err e) status.Failed is fault = tt
done_or_fault (Err e) _ is fault = absurd fault

module _ {H : Type 0} where
  -- keys that were bound
  pub binds_done : (keys command : List ℕ) (before old : Hosted H) (left : BoundCommands) (came : Status) (chord : Chord) (bound_to : Command)
      → IsUtf8 keys → IsUtf8 command → came ≡ status.Done → before ≡ old → command_named command ≡ Some bound_to → Rebinds (bound before.commands) (bound left) chord (answers (Some bound_to))
      → BindsKeys keys command old (record before { commands = left }) came
  binds_done keys command before old left came chord bound_to one other done is named rebinds = record {
    stays = ap (λ (s : Hosted H). record s { commands = left }) is;
    no_text = λ wrong. absurd (wrong (one, other));
    answers = λ _ _. subst MayBind (sym done) tt;
    binds = λ _. ((chord, bound_to), named, subst (λ (s : Hosted H). Rebinds (bound s.commands) (bound left) chord (answers (Some bound_to))) is rebinds);
    no_command = λ none. cc;
    kept = λ failed. absurd (failed done);
  }

  -- keys that were not bound, for want of memory
  pub binds_not : (keys command : List ℕ) (before old : Hosted H) (left : BoundCommands) (came : Status) → IsUtf8 keys → IsUtf8 command
      → came ≡ status.NoMemory → before ≡ old → left ≡ before.commands → BindsKeys keys command old (record before { commands = left }) came
  binds_not keys command before old left came one other wants is kept =
      let same : record before { commands = left } ≡ old = ap (λ commands. record before { commands = commands }) kept ∙ is in
      record {
        stays = subst (λ (s : Hosted H). s ≡ record old { commands = s.commands }) (sym same) refl;
        no_text = λ wrong. absurd (wrong (one, other));
        answers = λ _ _. subst MayBind (sym wants) tt;
        binds = λ done. cc;
        no_command = λ none. cc;
        kept = λ _. same;
      }
