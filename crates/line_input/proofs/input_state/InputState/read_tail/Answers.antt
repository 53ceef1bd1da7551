use Rattle.std.proofs.Common.{[], refl, ap}
use Rattle.line_keys.specs.Command.{command_of}
use Rattle.line_input.specs.Input.{in_mode}
use Rattle.line_input.specs.InputState.{behind_input, input_of, keys_of}
use Rattle.line_input.specs.Tail.{alone, by_motion}
use Rattle.line_input.specs.declared.input_state.phrases.Read.{Read}
use Rattle.line_input.proofs.PartLemmas.{at_once_part, part_mapped}
use Rattle.line_input.proofs.ReadingLemmas.{quiet_part}
use Rattle.line_input.proofs.input_state.InputState.read_tail.Goals as goal

pub returns-in-Operator : goal.returns-in-Operator
returns-in-Operator g c =
    let i = in_mode c.args.mode (input_of c.args.self.now) in
    rw c.in-Operator.is (part_mapped g.W.EditorState g.R.RawReader _ _ [] _ _ (λ c d. d) _ _ _ c.args.wrt.now (keys_of g.C.ConditionalEventHandler c.args.self.now) c.args.rdr.now _ _
    (λ items read motion. by_motion _ _ items read motion) refl (c.read_motion.ensures i refl))

pub returns-in-Command : goal.returns-in-Command
returns-in-Command g c =
    let k = keys_of g.C.ConditionalEventHandler c.args.self.now in
    let i = in_mode c.args.mode (input_of c.args.self.now) in
    rw c.in-Command.is (at_once_part g.W.EditorState g.R.RawReader _ (λ c d. d) (λ (b : Read). command_of b.command) (λ b. behind_input b i) _ i c.args.wrt.now k c.args.rdr.now
    (rw c.behind.ensures.command (alone (command_of c.in-Command.command))) (ap (λ s. record i { last_search = s }) c.behind.ensures.search))

pub returns-in_default : goal.returns-in_default
returns-in_default g c =
    let i = in_mode c.args.mode (input_of c.args.self.now) in
    (quiet_part g.W.EditorState g.R.RawReader _ c.args.wrt.now (keys_of g.C.ConditionalEventHandler c.args.self.now) c.args.rdr.now _
    (λ (b : Read). command_of b.command) (λ b. behind_input b i) _ c.read_quietly.ensures.items c.read_quietly.ensures.reads c.read_quietly.ensures.within)
