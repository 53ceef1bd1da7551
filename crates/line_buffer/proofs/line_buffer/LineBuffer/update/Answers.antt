use Rattle.std.proofs.Common.{◌≡◌, ℕ, List, OnOk, string_bytes, ap, ◌∙◌, subst, sym}
use Rattle.std.proofs.lemmas.Result.{IfOk-at_ok, on_ok_weaker}
use Rattle.std.proofs.lemmas.Str.{IsUtf8-had}
use Rattle.std.specs.Str.{IsCharBoundary}
use Rattle.line_buffer.specs.Changes.{Changes, Entry, with_update}
use Rattle.line_buffer.specs.Edit.{on_entries}
use Rattle.line_buffer.specs.Line.{Line}
use Rattle.line_buffer.specs.Undo.{StillTells}
use Rattle.line_buffer.proofs.ChangeLemmas.{left_settled, on_any}
use Rattle.line_buffer.proofs.TellsLemmas.{still-updated}
use Rattle.line_buffer.proofs.line_buffer.LineBuffer.update.Goals as goal

pub returns : goal.returns
returns c =
    let old = c.args.self.now.text in
    let entries = c.args.changes.now.entries in
    let text : string_bytes c.self.inside.buf ≡ old = ap (λ (l : Line). l.text) c.self.view_is in
    let new : string_bytes c.in_ok-new.new ≡ c.args.text.now =
    IfOk-at_ok (λ s. string_bytes s ≡ c.args.text.now) (sym c.settled.ensures.same ∙ c.in_ok-new.was) c.from_str.ensures.ok in
    let kept : string_bytes c.replace-old.new.dest ≡ c.args.text.now = ap (λ s. string_bytes s) c.replace-old.ensures.after ∙ new in
    let gone : string_bytes c.replace-old.result ≡ old = ap (λ s. string_bytes s) c.replace-old.ensures.value ∙ text in
    let recorded : OnOk c.replace_all-recorded.result (c.replace_all-recorded.new.self ≡ on_entries (with_update old c.args.text.now) c.args.changes.now) =
    subst (λ (left : Changes). OnOk c.replace_all-recorded.result (c.replace_all-recorded.new.self ≡ on_entries (with_update old c.args.text.now) left)) c.in_ok-new.ensures.ok
    (subst (λ (went : List ℕ). OnOk c.replace_all-recorded.result (c.replace_all-recorded.new.self ≡ on_entries (with_update went c.args.text.now) c.settled.new.self)) gone
    c.replace_all-recorded.ensures) in
    let changes = left_settled c.settled-2.result c.replace_all-recorded.result c.args.changes.now c.replace_all-recorded.new.self c.settled-2.new.self (with_update old c.args.text.now)
    c.settled-2.ensures.same c.settled-2.ensures.ok recorded in
    let told : StillTells entries old (with_update old c.args.text.now entries) c.args.text.now =
    still-updated entries old c.args.text.now (rw (← text) (IsUtf8-had _ c.self.inside.buf.ok)) c.utf8.text in
    let made : List ℕ → Line = λ s. record { text = s; cursor = c.args.pos } in
    record {
      cursor = subst (λ (t : List ℕ). IsCharBoundary t c.args.pos) (sym kept) c.requires;
      line = on_any c.settled-2.result (ap made kept);
      changes = changes;
      told = record {
        tells = on_ok_weaker c.settled-2.result (λ e.
            subst (λ (es : List Entry). StillTells entries old es (string_bytes c.replace-old.new.dest)) (sym (ap (λ (s : Changes). s.entries) e))
            (subst (λ (t : List ℕ). StillTells entries old (with_update old c.args.text.now entries) t) (sym kept) told)) changes;
        err = c.settled-2.ensures.err;
      };
    }
