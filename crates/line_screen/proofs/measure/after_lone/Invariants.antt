use Rattle.std.proofs.Common.{◌≡◌, true}
use Rattle.std.specs.List.{fold, list_all}
use Rattle.line_screen.proofs.LoneLemmas.{after_one, is_lone}
use Rattle.line_screen.proofs.measure.after_lone.Given as goal

-- each character so far joins no other, and they take the first place to this one
abbrev pub invariant-loop-c : goal.invariant-loop-c
invariant-loop-c l = (list_all is_lone l.yielded ≡ true) × (l.place ≡ fold (after_one l.columns) l.fn.place l.yielded)
