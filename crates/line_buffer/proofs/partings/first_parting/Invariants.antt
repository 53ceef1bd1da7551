use Rattle.std.proofs.Common.{◌≡◌, ◌<◌, ◌-◌, true}
use Rattle.line_buffer.specs.Printable.{meets_plain}
use Rattle.line_buffer.proofs.partings.first_parting.Given as goal

-- two plain characters meet at the place before, if they do in front
abbrev pub invariant-loop-place : goal.invariant-loop-place
invariant-loop-place l = l.in_front ≡ true → (1 < l.place) × (meets_plain l.text (l.place - 1) ≡ true)
