use Rattle.std.proofs.Common.{◌≡◌, string_bytes, arith}
use Rattle.std.proofs.lemmas.Map.Text.{text_keys}
use Rattle.std.proofs.lemmas.Result.{IfOk-at_ok}
use Rattle.console.proofs.arithmetic.names.Names.set.Goals as goal

pub returns-clause-ok : goal.returns-clause-ok
returns-clause-ok c =
    let key_is_name = IfOk-at_ok (λ s. string_bytes s ≡ c.args.name.now) c.in_ok-key.was c.from_str.ensures.ok in
    record {
      changed = grind (arith, text_keys);
      others = λ other differs. grind (arith, text_keys);
    }
