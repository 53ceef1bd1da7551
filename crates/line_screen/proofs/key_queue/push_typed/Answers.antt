use Rattle.std.proofs.Common.{[], ◌∷◌, ◌++◌, map, refl, ap, sym, ◌∙◌}
use Rattle.std.proofs.lemmas.List.{append-nil, map-id}
use Rattle.std.proofs.lemmas.Iterator.{YieldsList-from_chars}
use Rattle.std.proofs.lemmas.Iterator.Consumers.{YieldsList-end}
use Rattle.line_keys.specs.Key.{event}
use Rattle.line_keys.specs.declared.keys.KeyCode.TheVariants.{Char}
use Rattle.line_keys.specs.declared.keys.TheConstants.Modifiers.{NONE}
use Rattle.line_screen.specs.KeyQueue.{plain_key}
use Rattle.line_screen.specs.declared.key_queue.Item.{Item}
use Rattle.line_screen.specs.declared.key_queue.Item.TheVariants.{Key}
use Rattle.line_screen.proofs.QueueLemmas.{keys_on, pushed, typed_on}
use Rattle.line_screen.proofs.key_queue.push_typed.Goals as goal

pub loop-c-init : goal.loop-c-init
loop-c-init c = ([], sym (append-nil c.args.items.now.items), refl)

pub loop-c-preserved : goal.loop-c-preserved
loop-c-preserved c =
    let so_far = c.loop-c.invariant in
    let item : Item = Key (event (Char c.in-Some.c) NONE) in (
      so_far.0 ++ item ∷ [],
      typed_on c.args.items.now.items c.loop-c.items.items c.push_back.new.self.items so_far.0 item so_far.1
          (pushed c.push_back.result c.loop-c.items.items c.push_back.new.self.items item c.push_back.ensures.items (sym c.is_err.ensures.value ∙ c.if-is_err.false)),
      keys_on so_far.0 c.loop-c.yielded item c.in-Some.c so_far.2 refl,
    )

pub returns-clause-ok : goal.returns-clause-ok
returns-clause-ok c =
    let t = YieldsList-end (YieldsList-from_chars c.args.text.now c.utf8.text cc) c.loop-c.yielded _ c.loop-c.yielded_by _ _ c.in-None.is c.next.ensures.steps in
    record {
      added = c.loop-c.invariant.0;
      behind = c.loop-c.invariant.1;
      keys = c.loop-c.invariant.2 ∙ ap (map plain_key) (sym (map-id c.loop-c.yielded) ∙ t.0);
    }
