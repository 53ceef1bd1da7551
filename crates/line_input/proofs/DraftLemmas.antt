-- Facts on what is left of a draft.
use Rattle.std.proofs.Common.{◌≡◌, ◌⊎◌, inl, inr, true, Result, Ok, Err, refl, sym, ◌∙◌, ap, subst}
use Rattle.line_buffer.specs.Line.{Line}
use Rattle.line_config.specs.Error.{is_io, is_memory}
use Rattle.line_config.specs.declared.error.ReadlineError.{ReadlineError}
use Rattle.line_config.specs.declared.error.ReadlineError.TheVariants.{Eof, Interrupted, Io, Memory}
use Rattle.line_keys.specs.Model.Draft.{Draft, KeepsText, hinted}
use Rattle.line_keys.specs.Model.Fault.{IoLeaves, IoLeft, IsEarlierHint, IsOf, IsOfMoment, as_before, as_halfway, as_left}
use Rattle.line_parts.specs.Environment.{Environment, hint_for}

-- memory that ran out is no error of input or output
pub not_io : {A : Type 0} (er : ReadlineError) → is_memory er ≡ true → is_io er ≡ true → A
not_io Memory is io = absurd (cc)
not_io Eof is io = absurd (cc)
not_io Interrupted is io = absurd (cc)
not_io (Io cause) is io = absurd (cc)

-- all of a draft is that of itself
pub whole_text : (draft : Draft) → KeepsText draft draft
whole_text draft = record { line = refl; saved = refl; index = refl; changes = refl }

-- an equal draft keeps all
pub same_draft : (before draft : Draft) → draft ≡ before → KeepsText before draft
same_draft before draft same = subst (λ (d : Draft). KeepsText before d) (sym same) (whole_text before)

-- all but the hint stays in two steps
pub but_hint : (left made draft : Draft) → KeepsText left made → KeepsText made draft → KeepsText left draft
but_hint left made draft first second = record {
  line = second.line ∙ first.line;
  saved = second.saved ∙ first.saved;
  index = second.index ∙ first.index;
  changes = second.changes ∙ first.changes;
}

-- a draft that was made, for which the hint may have been asked, is that of the moment in which it is left
pub of_made : (environment : Environment) (before halfway made left draft : Draft) → made.hint ≡ before.hint → KeepsText left made
    → (draft ≡ made) ⊎ (draft ≡ hinted environment made) → IsOf environment before halfway left draft
of_made environment before halfway made left draft hint same is =
    let P : Draft → Type 0 = λ d. IsOf environment before halfway left d in
    elim is [
      | inl e ↦ subst P (sym e) (record { text = same; hint = inl (inl hint) })
      | inr e ↦ subst P (sym e) (record {
        text = record { line = same.line; saved = same.saved; index = same.index; changes = same.changes };
        hint = inr refl;
      })
    ]

-- what was an earlier hint of a call is one of a call that began before it
pub earlier : (environment : Environment) (before mid halfway' halfway draft : Draft) → IsEarlierHint before halfway mid.hint → IsEarlierHint before halfway halfway'.hint
    → IsEarlierHint mid halfway' draft.hint ⊎ (draft.hint ≡ (hinted environment draft).hint)
    → IsEarlierHint before halfway draft.hint ⊎ (draft.hint ≡ (hinted environment draft).hint)
earlier environment before mid halfway' halfway draft hint hint' (inr asked) = inr asked
earlier environment before mid halfway' halfway draft hint hint' (inl (inl same)) = inl (subst (λ h. IsEarlierHint before halfway h) (sym same) hint)
earlier environment before mid halfway' halfway draft hint hint' (inl (inr (inl none))) = inl (inr (inl none))
earlier environment before mid halfway' halfway draft hint hint' (inl (inr (inr same))) = inl (subst (λ h. IsEarlierHint before halfway h) (sym same) hint')

-- a moment of a call that begins with the text of another, or with what that one leaves halfway, is a moment of that one
pub moment_from : (environment : Environment) (before mid halfway' halfway left draft : Draft)
    → IsEarlierHint before halfway mid.hint → IsEarlierHint before halfway halfway'.hint
    → KeepsText before mid ⊎ KeepsText halfway mid → KeepsText before halfway' ⊎ KeepsText halfway halfway'
    → IsOfMoment environment mid halfway' left draft → IsOfMoment environment before halfway left draft
moment_from environment before mid halfway' halfway left draft hint hint' is is' moment = elim moment [
  | as_before at ↦ begun mid is at
  | as_halfway at ↦ begun halfway' is' at
  | as_left at ↦ as_left (record { text = at.text; hint = of_hint at.hint })
]
  where
    of_hint : IsEarlierHint mid halfway' draft.hint ⊎ (draft.hint ≡ (hinted environment draft).hint)
        → IsEarlierHint before halfway draft.hint ⊎ (draft.hint ≡ (hinted environment draft).hint)
    of_hint = earlier environment before mid halfway' halfway draft hint hint'

    begun : (from : Draft) → KeepsText before from ⊎ KeepsText halfway from → IsOf environment mid halfway' from draft → IsOfMoment environment before halfway left draft
    begun from known at = elim known [
      | inl same ↦ as_before (record { text = but_hint before from draft same at.text; hint = of_hint at.hint })
      | inr same ↦ as_halfway (record { text = but_hint halfway from draft same at.text; hint = of_hint at.hint })
    ]

-- the hint of a line is asked for by the line alone
asked_same : (environment : Environment) (before draft : Draft) → KeepsText before draft → (hinted environment before).hint ≡ (hinted environment draft).hint
asked_same environment before draft text =
    ap (λ (l : Line). hint_for environment l.text l.cursor before.index) (sym text.line) ∙ ap (λ i. hint_for environment draft.line.text draft.line.cursor i) (sym text.index)

-- what is read of nothing but a count leaves the draft
pub io_stays : {T : Type 0} (r : Result T ReadlineError) (environment : Environment) (draft from : Draft) → IoLeaves r environment draft from draft
io_stays (Ok x) environment draft from = tt
io_stays (Err er) environment draft from = λ io. as_before (record { text = whole_text draft; hint = inl (inl refl) })

pub io_cut : (er : ReadlineError) (environment : Environment) (before from draft : Draft)
    → (draft ≡ before) ⊎ (draft ≡ hinted environment before) → IoLeft er environment before from draft
io_cut er environment before from draft left =
    λ io. as_before (of_made environment before from before before draft refl (whole_text before) left)

-- behind a count that was read
pub io_counted : {T : Type 0} (r : Result T ReadlineError) (environment environment' : Environment) (before mid draft : Draft)
    → environment ≡ environment' → mid ≡ hinted environment' before
    → IoLeaves r environment mid mid draft → IoLeaves r environment' before before draft
io_counted (Ok x) environment environment' before mid draft same asked io = tt
io_counted (Err er) environment environment' before mid draft same asked io = λ is.
    there (subst (λ (d : Draft). IsOfMoment environment' d d d draft) asked (subst (λ (w : Environment). IsOfMoment w mid mid mid draft) same (io is)))
  where
    of_hint : KeepsText before draft → IsEarlierHint (hinted environment' before) (hinted environment' before) draft.hint ⊎ (draft.hint ≡ (hinted environment' draft).hint)
        → IsEarlierHint before before draft.hint ⊎ (draft.hint ≡ (hinted environment' draft).hint)
    of_hint text (inr now) = inr now
    of_hint text (inl (inl was)) = inr (was ∙ asked_same environment' before draft text)
    of_hint text (inl (inr (inl none))) = inl (inr (inl none))
    of_hint text (inl (inr (inr was))) = inr (was ∙ asked_same environment' before draft text)

    begun : IsOf environment' (hinted environment' before) (hinted environment' before) (hinted environment' before) draft → IsOf environment' before before before draft
    begun at =
        let text : KeepsText before draft = record { line = at.text.line; saved = at.text.saved; index = at.text.index; changes = at.text.changes } in
        record { text = text; hint = of_hint text at.hint }

    there : IsOfMoment environment' (hinted environment' before) (hinted environment' before) (hinted environment' before) draft → IsOfMoment environment' before before before draft
    there (as_before at) = as_before (begun at)
    there (as_halfway at) = as_before (begun at)
    there (as_left at) = as_before (begun at)

-- behind groups that were ended
pub io_ended : (er : ReadlineError) (environment environment' : Environment) (before mid from draft : Draft)
    → environment ≡ environment' → mid ≡ from → mid.hint ≡ before.hint
    → IoLeft er environment mid mid draft → IoLeft er environment' before from draft
io_ended er environment environment' before mid from draft same ended hint io = λ is.
    moment_from environment' before mid mid from from draft (inl hint) (inl hint) (inr (same_draft from mid ended)) (inr (same_draft from mid ended))
    (subst (λ (d : Draft). IsOfMoment environment' mid mid d draft) ended (subst (λ (w : Environment). IsOfMoment w mid mid mid draft) same (io is)))
