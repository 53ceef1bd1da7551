use Rattle.std.proofs.Common.{arith, length, is_ok, subst, sym, refl, ap, ◌∙◌, inr}
use Rattle.std.specs.Prelude.{All, IsCharBoundary}
use Rattle.std.proofs.ResultArms.{chosen}
use Rattle.std.proofs.lemmas.List.{length_push}
use Rattle.std.proofs.lemmas.List.Elements.{All-push}
use Rattle.std.proofs.lemmas.Result.{err_from_is_err_and}
use Rattle.std.proofs.lemmas.Str.{IsCharBoundary-start}
use Rattle.console.specs.declared.arithmetic.complaint.Refusal.{Refusal}
use Rattle.console.specs.Tokens.{SpellsOnlyUpTo, SpellsUpTo, symbols_of}
use Rattle.console.proofs.SpellingLemmas.{LeadsOnlyTo-push, LeadsTo-push, spelled_whole}
use Rattle.console.proofs.ReadingLemmas.{only_whole, too_large_behind}
use Rattle.console.proofs.arithmetic.token.scan.Goals as goal

pub skip_blanks-at-requires : goal.skip_blanks-at-requires
skip_blanks-at-requires c = IsCharBoundary-start c.args.text.now c.utf8.text

pub returns-in_err-push-clause-err : goal.returns-in_err-push-clause-err
returns-in_err-push-clause-err c =
    let p = err_from_is_err_and c.from_residual-in_err-push.result c.from_residual-in_err-push.ensures.1 in
    rw (p.1, p.2) (IsCharBoundary-start c.args.text.now c.utf8.text)

pub loop-tokens-preserved : goal.loop-tokens-preserved
loop-tokens-preserved c =
    let text = c.args.text.now in
    let before = c.loop-tokens.invariant in
    let reads = rw c.in-Some.is at c.in_ok-read.ensures.ok in
    let pushed = chosen _ _ _ _ c.push.ensures.items (ap is_ok c.in_ok-push.was) in
    record {
      leads = subst (λ ts. SpellsUpTo text 0 (symbols_of ts) c.skip_blanks-at-in-Some.result) (sym pushed)
          (LeadsTo-push text c.loop-tokens.at c.loop-tokens.tokens.items _ c.in-Some.read _ before.leads reads refl c.skip_blanks-at-in-Some.ensures.leads);
      only = subst (λ ts. SpellsOnlyUpTo text 0 (symbols_of ts) c.skip_blanks-at-in-Some.result) (sym pushed)
          (LeadsOnlyTo-push text c.loop-tokens.at c.loop-tokens.tokens.items _ c.in-Some.read _ before.only reads refl c.skip_blanks-at-in-Some.ensures.only);
      unblank = c.skip_blanks-at-in-Some.ensures.stops;
      places = subst (All (λ t. IsCharBoundary text t.place)) (sym pushed) (All-push (λ t. IsCharBoundary text t.place) c.loop-tokens.tokens.items _ before.places before.boundary);
      short = omega (arith, ap length pushed, length_push c.loop-tokens.tokens.items (record { token = c.in-Some.read.token; place = c.loop-tokens.at }), reads.forward, c.skip_blanks-at-in-Some.ensures.forward);
      boundary = c.skip_blanks-at-in-Some.ensures.boundary;
    }

pub returns-clause-ok : goal.returns-clause-ok
returns-clause-ok c = record {
  spelled = spelled_whole c.args.text.now c.loop-tokens.tokens.items c.loop-tokens.at c.loop-tokens.invariant.leads;
  only = only_whole c.args.text.now (symbols_of c.loop-tokens.tokens.items) c.loop-tokens.at c.loop-tokens.invariant.only (rw c.in_default.is at c.in_ok-read.ensures.none);
  places = c.loop-tokens.invariant.places;
  end = c.loop-tokens.invariant.boundary;
  short = omega (arith, c.loop-tokens.invariant.short, c.loop-tokens.invariant.boundary.0);
}

-- a number on the way is too large
pub returns-in_err-read-clause-refused : goal.returns-in_err-read-clause-refused
returns-in_err-read-clause-refused c =
    let p = err_from_is_err_and c.from_residual.result c.from_residual.ensures.1 in
    let fault = p.2 ∙ c.in_err-read.ensures.err in
    rw p.1 (inr (
      ap (λ (r : Refusal). r.complaint) fault,
      too_large_behind c.args.text.now (symbols_of c.loop-tokens.tokens.items) c.loop-tokens.at c.loop-tokens.invariant.only c.in_err-read.ensures.too_large,
    ))
