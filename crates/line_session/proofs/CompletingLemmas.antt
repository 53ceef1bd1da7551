-- Facts on completions.
use Rattle.std.proofs.Common.{◌≡◌, ◌∙◌, ◌-◌, ◌||◌, ◌==◌, nat_lt, ℕ, Bool, true, false, List, length, map, Option, Some, None, refl, sym, ap, subst, slice_get, ◌+◌, ◌≤◌, ◌<◌, ◌++◌, [], ◌∷◌, take, take-suc, get_or, option_map, Bor, Result, Ok, Err, IfOk, arith, suc}
use Rattle.std.specs.Prelude.{IfSome, MatchBool, MatchOption}
use Rattle.std.proofs.lemmas.Bool.Decides.{nat_tests}
use Rattle.std.proofs.lemmas.Option.{slice_get_past, slice_get_read}
use Rattle.std.proofs.lemmas.List.{map-append}
use Rattle.std.specs.declared.alloc.Global.{Global}
use Rattle.std.specs.declared.vec.Vec.{Vec}
use Rattle.line_config.specs.Settings.{Settings}
use Rattle.line_config.specs.declared.config.CompletionType.{CompletionType}
use Rattle.line_config.specs.declared.config.CompletionType.TheVariants as types
use Rattle.line_keys.specs.Model.Draft.{Draft, hinted}
use Rattle.line_parts.specs.Candidate.{BeginsIn, Offer, offer_of, pair_offer}
use Rattle.line_parts.specs.Environment.{Environment}
use Rattle.line_parts.specs.Prefix.{IsCommonStart}
use Rattle.line_parts.specs.declared.completion.Candidate as candidates
use Rattle.line_parts.specs.declared.completion.pair.Pair.{Pair}
use Rattle.line_editor.specs.Completing.{ComesIn, IsOffered}
use Rattle.line_editor.specs.Editor.{edited_of, with_edited}
use Rattle.line_session.specs.Completing.{Agree, BeginsCompletion, ByCandidates, ByType, Elects, GoesOnTo, Lists, ListsPage, PutsInCommon, ShowsCandidate, before_shown, replacement_of}
use Rattle.line_session.specs.declared.completing.Completing.{Completing}
use Rattle.line_session.specs.declared.listing.Listing.{Listing}
use Rattle.line_session.specs.declared.mode.Mode.{Mode}
use Rattle.line_session.specs.declared.mode.Mode.TheVariants as modes

-- what holds of a success
pub map_ok : {T E : Type 0} (r : Result T E) (P Q : T → Type 0) → ((done : T) → P done → Q done) → IfOk r P → IfOk r Q
map_ok (Ok done) P Q then_so holds = then_so done holds
map_ok (Err error) P Q then_so holds = tt

-- an elected text came in, and the hint was asked by those who answer alike
pub elects_so : (w w' : Environment) (start : ℕ) (text : List ℕ) (grown : Bool) (old put new : Draft)
    → (BeginsIn old.line.text old.line.cursor start → ComesIn w.updated start text grown (edited_of old) (edited_of put))
    → ((BeginsIn old.line.text old.line.cursor start → ⊥) → (grown ≡ false) × (put ≡ old))
    → put ≡ with_edited old (edited_of put) → w' ≡ w → new ≡ hinted w' put → Elects w start text grown old new
elects_so w w' start text grown old put new comes unfit stays same asked =
    record { put = put; comes = comes; unfit = unfit; stays = stays; asked = asked ∙ ap (λ x. hinted x put) same }

-- what candidates begin with in common was put in
pub agree_in : (w : Environment) (start : ℕ) (candidates : List Pair) (text : List ℕ) (old new : Draft) (cursor : ℕ) (puts grown : Bool) → IsCommonStart (map replacement_of candidates) (Some text)
    → cursor ≡ old.line.cursor → puts ≡ (nat_lt (cursor - start) (length text) || (length candidates == 1)) → puts ≡ true → Elects w start text grown old new → Agree w start candidates old new
agree_in w start candidates text old new cursor puts grown common here is holds elects = record {
  common = Some text;
  is = common;
  puts = subst (λ b. MatchBool b ((grown : Bool) × Elects w start text grown old new) (new ≡ old)) (sym holds ∙ is ∙ ap (λ x. nat_lt (x - start) (length text) || (length candidates == 1)) here) (grown, elects);
}

-- or it stands there already
pub agree_there : (w : Environment) (start : ℕ) (candidates : List Pair) (text : List ℕ) (old : Draft) (cursor : ℕ) (puts : Bool) → IsCommonStart (map replacement_of candidates) (Some text)
    → cursor ≡ old.line.cursor → puts ≡ (nat_lt (cursor - start) (length text) || (length candidates == 1)) → puts ≡ false → Agree w start candidates old old
agree_there w start candidates text old cursor puts common here is fails = record {
  common = Some text;
  is = common;
  puts = subst (λ b. MatchBool b ((grown : Bool) × Elects w start text grown old old) (old ≡ old)) (sym fails ∙ is ∙ ap (λ x. nat_lt (x - start) (length text) || (length candidates == 1)) here) refl;
}

-- a candidate was shown in place of another
pub goes_so : (w w' : Environment) (going : Completing) (index : ℕ) (candidate : Option Pair) (grown : Bool) (old bare new : Draft) → w' ≡ w → bare ≡ before_shown going old
    → candidate ≡ slice_get going.candidates.items index → ShowsCandidate w' going.start candidate grown bare new
    → GoesOnTo w going index old new (modes.Completing (record { start = going.start; candidates = going.candidates; shown = index; grown = grown }))
goes_so w w' going index candidate grown old bare new same back at shows = record {
  next = record { start = going.start; candidates = going.candidates; shown = index; grown = grown };
  mode_is = refl;
  start = refl;
  candidates = refl;
  index_is = refl;
  shows =
      subst (λ x. ShowsCandidate x going.start (slice_get going.candidates.items index) grown (before_shown going old) new) same
      (subst (λ c. ShowsCandidate w' going.start c grown (before_shown going old) new) at (subst (λ d. ShowsCandidate w' going.start candidate grown d new) back shows));
}

-- what is looked up of candidates by an index
pub looked_up : (items : List Pair) (index : ℕ) (found : Option (Bor Pair)) (P : Bor Pair → Type 0) → IfSome found (λ x. x.now ≡ get_or items index x.now)
    → MatchOption found (length items ≤ index) (λ x. (index < length items) × P x) → option_map (λ x. x.now) found ≡ slice_get items index
looked_up items index None P at cases = sym (slice_get_past items index cases)
looked_up items index (Some x) P at cases = sym (slice_get_read items (length items) index x.now refl cases.0 at)

-- one candidate more became a pair
pub pairs_more : {C : Type 0} (candidate : candidates.Ghosts C) (items : List C) (pairs pairs' : List Pair) (index : ℕ) (next : C) (pair : Pair) → index < length items
    → next ≡ get_or items index next → map pair_offer pairs ≡ map (offer_of candidate) (take index items) → pairs' ≡ pairs ++ (pair ∷ []) → pair_offer pair ≡ offer_of candidate next
    → map pair_offer pairs' ≡ map (offer_of candidate) (take (index + 1) items)
pairs_more candidate items pairs pairs' index next pair within at before pushed same =
    ap (λ l. map pair_offer l) pushed ∙ map-append pair_offer pairs (pair ∷ []) ∙ ap (λ l. l ++ (pair_offer pair ∷ [])) before
    ∙ ap (λ o. map (offer_of candidate) (take index items) ++ (o ∷ [])) (same ∙ ap (λ n. offer_of candidate n) at)
    ∙ sym (map-append (offer_of candidate) (take index items) (get_or items index next ∷ []))
    ∙ ap (λ l. map (offer_of candidate) l) (sym (take-suc items index next within)) ∙ ap (λ k. map (offer_of candidate) (take k items)) {x = suc index} {y = index + 1} (omega arith)

-- behind what they agree on, several candidates are listed at once
pub lists_at_once : (settings : Settings) (w w' : Environment) (start : ℕ) (candidates : Vec Pair Global) (old put beeped new : Draft) (mode : Mode) → Agree w start candidates.items old put
    → (length candidates.items ≡ 1 → ⊥) → settings.completion_show_all_if_ambiguous ≡ true → beeped ≡ put → w' ≡ w → Lists settings w' candidates beeped new mode
    → PutsInCommon settings w start candidates old new mode
lists_at_once settings w w' start candidates old put beeped new mode agree several all same alike lists = record {
  put = put;
  agree = agree;
  lists =
      let there = subst (λ x. Lists settings x candidates put new mode) alike (subst (λ d. Lists settings w' candidates d new mode) same lists) in
      let single : (length candidates.items == 1) ≡ false = grind (arith, nat_tests) in
      subst (λ b. MatchBool b ((new ≡ put) × (mode ≡ modes.Editing)) (MatchBool settings.completion_show_all_if_ambiguous (Lists settings w candidates put new mode) ((new ≡ put) × (mode ≡ modes.Offering candidates))))
      (sym single) (subst (λ b. MatchBool b (Lists settings w candidates put new mode) ((new ≡ put) × (mode ≡ modes.Offering candidates))) (sym all) there);
}

-- a completion began with candidates, or with none
pub begins_with : (settings : Settings) (w : Environment) (old new : Draft) (mode : Mode) (start : ℕ) (candidates : Vec Pair Global) (offers : List Offer)
    → IsOffered w old (record { start = start; offers = offers }) → BeginsIn old.line.text old.line.cursor start → map pair_offer candidates.items ≡ offers
    → ByCandidates candidates.items settings w start candidates old new mode → BeginsCompletion settings w old new mode
begins_with settings w old new mode start candidates offers offered fits same begins = record {
  start = start;
  candidates = candidates;
  offered = subst (λ o. IsOffered w old (record { start = start; offers = o })) (sym same) offered;
  fits = fits;
  begins = begins;
}

pub by_none : (items : List Pair) (settings : Settings) (w : Environment) (start : ℕ) (candidates : Vec Pair Global) (old new : Draft) (mode : Mode) → items ≡ []
    → (new ≡ old) × (mode ≡ modes.Editing) → ByCandidates items settings w start candidates old new mode
by_none items settings w start candidates old new mode none nothing = subst (λ i. ByCandidates i settings w start candidates old new mode) (sym none) nothing

pub by_some : (items : List Pair) (settings : Settings) (w : Environment) (start : ℕ) (candidates : Vec Pair Global) (old new : Draft) (mode : Mode) → (items ≡ [] → ⊥)
    → ByType settings.completion_type settings w start candidates old new mode → ByCandidates items settings w start candidates old new mode
by_some [] settings w start candidates old new mode some begins = absurd (some refl)
by_some (first ∷ more) settings w start candidates old new mode some begins = begins

-- by their type candidates are put in as far as they agree, or gone through
pub by_list : (type : CompletionType) (settings : Settings) (w : Environment) (start : ℕ) (candidates : Vec Pair Global) (old new : Draft) (mode : Mode) → type ≡ types.List
    → PutsInCommon settings w start candidates old new mode → ByType type settings w start candidates old new mode
by_list type settings w start candidates old new mode is puts = subst (λ t. ByType t settings w start candidates old new mode) (sym is) puts

pub by_circle : (type : CompletionType) (settings : Settings) (w : Environment) (start shown : ℕ) (candidates : Vec Pair Global) (old new : Draft) (mode : Mode) → type ≡ types.Circular
    → shown ≡ length candidates.items → GoesOnTo w (record { start = start; candidates = candidates; shown = shown; grown = false }) 0 old new mode
    → ByType type settings w start candidates old new mode
by_circle type settings w start shown candidates old new mode is all goes =
    subst (λ t. ByType t settings w start candidates old new mode) (sym is)
    (subst (λ n. GoesOnTo w (record { start = start; candidates = candidates; shown = n; grown = false }) 0 old new mode) all goes)

-- candidates that are the same agree so far
pub agree_for : (w : Environment) (start : ℕ) (items items' : List Pair) (old new : Draft) → items ≡ items' → Agree w start items old new → Agree w start items' old new
agree_for w start items items' old new same agree = subst (λ l. Agree w start l old new) same agree

-- a list was asked for first, or begun
pub lists_asked : (settings : Settings) (w : Environment) (listing : Listing) (candidates : Vec Pair Global) (old new : Draft) (mode : Mode) → listing.candidates ≡ candidates → listing.next ≡ None
    → settings.completion_prompt_limit < length candidates.items → new ≡ old → mode ≡ modes.Listing listing → Lists settings w candidates old new mode
lists_asked settings w listing candidates old new mode of fresh more stays is =
    let less : nat_lt settings.completion_prompt_limit (length candidates.items) ≡ true = grind (arith, nat_tests) in
    record {
      listing = listing;
      of = of;
      fresh = fresh;
      begins = subst (λ b. MatchBool b ((new ≡ old) × (mode ≡ modes.Listing listing)) (ListsPage w listing old new mode)) (sym less) (stays, is);
    }

pub lists_begun : (settings : Settings) (w : Environment) (listing : Listing) (candidates : Vec Pair Global) (old new : Draft) (mode : Mode) → listing.candidates ≡ candidates → listing.next ≡ None
    → (settings.completion_prompt_limit < length candidates.items → ⊥) → ListsPage w listing old new mode → Lists settings w candidates old new mode
lists_begun settings w listing candidates old new mode of fresh few page =
    let less : nat_lt settings.completion_prompt_limit (length candidates.items) ≡ false = grind (arith, nat_tests) in
    record {
      listing = listing;
      of = of;
      fresh = fresh;
      begins = subst (λ b. MatchBool b ((new ≡ old) × (mode ≡ modes.Listing listing)) (ListsPage w listing old new mode)) (sym less) page;
    }
