use Rattle.std.proofs.Common.{◌≡◌, ◌≤◌, ℕ, List, length, string_bytes, ap, ◌∙◌, arith}
use Rattle.std.proofs.lemmas.Str.{IsUtf8-had}
use Rattle.std.specs.List.{insert_slice}
use Rattle.std.specs.Str.{IsUtf8}
use Rattle.line_buffer.specs.Changes.{Changes, with_insert}
use Rattle.line_buffer.specs.Edit.{on_entries}
use Rattle.line_buffer.specs.Line.{Line, inserted_at}
use Rattle.line_buffer.proofs.ChangeLemmas.{once_settled}
use Rattle.line_buffer.proofs.PlainLemmas.{plain_inserted}
use Rattle.line_buffer.proofs.TellsLemmas.{front-replaced, behind_insert, still-inserted}
use Rattle.line_buffer.proofs.BoundaryLemmas.{boundary_before_insert}
use Rattle.line_buffer.proofs.line_buffer.LineBuffer.insert_str.Goals as goal

pub invariant_of-self-inside-2 : goal.invariant_of-self-inside-2
invariant_of-self-inside-2 c =
    let bytes : string_bytes c.insert_str.new.self ≡ insert_slice (string_bytes c.self.inside.buf) c.args.place c.args.text.now =
    once_settled _ _ _ c.settled-2.ensures.same c.in_ok-settled-2.was c.insert_str.ensures.bytes in
    let plain = plain_inserted (string_bytes c.self.inside.buf) (string_bytes c.insert_str.new.self) c.args.text.now c.args.place bytes in
    (grind (arith, plain), tt)

pub invariant_of-self-2 : goal.invariant_of-self-2
invariant_of-self-2 c =
    let bytes : string_bytes c.insert_str.new.self ≡ insert_slice (string_bytes c.self.inside.buf) c.args.place c.args.text.now =
    once_settled _ _ _ c.settled-2.ensures.same c.in_ok-settled-2.was c.insert_str.ensures.bytes in
    let within : c.args.place ≤ length (string_bytes c.self.inside.buf) = omega (arith, ap (λ (l : Line). length l.text) c.self.view_is, c.requires.boundary.0) in
    boundary_before_insert (string_bytes c.self.inside.buf) (string_bytes c.insert_str.new.self) c.args.text.now c.self.inside.pos c.args.place
    (IsUtf8-had _ c.self.inside.buf.ok) (IsUtf8-had _ c.insert_str.new.self.ok) bytes c.self.invariant
    (omega (arith, ap (λ (l : Line). l.cursor) c.self.view_is, c.requires.behind)) within

pub returns : goal.returns
returns c =
    let bytes : string_bytes c.insert_str.new.self ≡ insert_slice (string_bytes c.self.inside.buf) c.args.place c.args.text.now =
    once_settled _ _ _ c.settled-2.ensures.same c.in_ok-settled-2.was c.insert_str.ensures.bytes in
    let recorded : c.insert_str-recorded.new.self ≡ on_entries (with_insert c.args.place c.args.text.now) c.args.changes.now =
    once_settled _ _ _ c.settled.ensures.same c.in_ok-settled.was c.insert_str-recorded.ensures in
    let changes : c.settled-2.new.self ≡ on_entries (with_insert c.args.place c.args.text.now) c.args.changes.now =
    c.in_ok-settled-2.ensures.ok ∙ c.in_ok-settled.ensures.ok ∙ recorded in
    let text = ap (λ (l : Line). l.text) c.self.view_is in
    let is = bytes ∙ ap (λ s. insert_slice s c.args.place c.args.text.now) text in
    let within : c.args.place ≤ length (string_bytes c.self.inside.buf) = omega (arith, ap length text, c.requires.boundary.0) in
    let u : IsUtf8 c.args.self.now.text = rw (← text) (IsUtf8-had _ c.self.inside.buf.ok) in
    let made : List ℕ → Line = λ s. record { text = s; cursor = c.self.inside.pos } in
    record {
      cursor =
          boundary_before_insert (string_bytes c.self.inside.buf) (string_bytes c.insert_str.new.self) c.args.text.now c.self.inside.pos c.args.place
          (IsUtf8-had _ c.self.inside.buf.ok) (IsUtf8-had _ c.insert_str.new.self.ok) bytes c.self.invariant
          (omega (arith, ap (λ (l : Line). l.cursor) c.self.view_is, c.requires.behind)) within;
      line = ap made bytes ∙ ap (λ (l : Line). inserted_at l c.args.place c.args.text.now) c.self.view_is;
      changes = changes;
      told = record {
        tells =
            rw (ap (λ (s : Changes). s.entries) changes)
            (still-inserted c.args.changes.now.entries c.args.self.now.text (string_bytes c.insert_str.new.self) c.args.text.now c.args.place c.requires.boundary.0 is
            (front-replaced c.args.self.now.text (string_bytes c.insert_str.new.self) c.args.text.now c.args.place c.args.place u (IsUtf8-had _ c.insert_str.new.self.ok) is c.requires.boundary.0)
            c.requires.boundary (behind_insert c.args.self.now.text (string_bytes c.insert_str.new.self) c.args.text.now c.args.place u c.requires.boundary is));
        err = tt;
      };
    }
