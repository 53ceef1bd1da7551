use Rattle.std.proofs.Common.{◌≡◌, ap, sym, ◌∙◌}
use Rattle.std.proofs.lemmas.Iterator.{YieldsList-from_chars}
use Rattle.std.proofs.lemmas.Iterator.Consumers.{YieldsList-end}
use Rattle.std.specs.List.{fold, list_all}
use Rattle.std.specs.Str.{chars}
use Rattle.line_buffer.proofs.WidthLemmas.{map-same}
use Rattle.line_screen.proofs.LoneLemmas.{after-lone, after_one, is_lone}
use Rattle.line_screen.proofs.measure.after_lone.Goals as goal

pub returns : goal.returns
returns c =
    let t = YieldsList-end (YieldsList-from_chars c.args.text.now c.utf8.text cc) c.loop-c.yielded _ c.loop-c.yielded_by _ _ c.in-None.is c.next.ensures.steps in
    let all : c.loop-c.yielded ≡ chars c.args.text.now = sym (map-same c.loop-c.yielded) ∙ t.0 in
    c.loop-c.invariant.1 ∙ ap (fold (after_one c.args.columns) c.args.place) all
    ∙ after-lone c.args.columns c.args.place c.args.text.now c.utf8.text (ap (list_all is_lone) (sym all) ∙ c.loop-c.invariant.0)
