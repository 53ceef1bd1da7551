use Rattle.std.proofs.Common.{refl}
use Rattle.line_config.specs.declared.error.ReadlineError.TheVariants.{Eof}
use Rattle.line_session.proofs.TurnLemmas.{dries_up, fewer_read, searched_so}
use Rattle.line_session.proofs.turns.search_turn.Goals as goal

pub returns-in_default-clause-takes : goal.returns-in_default-clause-takes
returns-in_default-clause-takes g c =
    let reads = rw c.in_default.is at c.in_ok-command.ensures.reads in
    rw reads.kills_left (dries_up _ _ c.args.config.now c.args.searching _ _ _ _ _ _ _ Eof reads.read refl)

pub returns-clause-takes : goal.returns-clause-takes
returns-clause-takes g c =
    let reads = rw c.in-Some.is at c.in_ok-command.ensures.reads in
    searched_so _ _ c.args.config.now c.args.searching _ _ _ _ _ _ _ _ _ _ c.in-Some.command reads.read reads.kills_left
    c.in_ok-turned.turned c.in_ok-turned.next c.in_ok-turned.ensures.does c.in_ok-turned.ensures.mode

pub returns-clause-drawn : goal.returns-clause-drawn
returns-clause-drawn g c = c.in_ok-turned.ensures.drawn c.args.keys.now.rest

pub returns-clause-fewer : goal.returns-clause-fewer
returns-clause-fewer g c = λ _.
    let reads = rw c.in-Some.is at c.in_ok-command.ensures.reads in
    fewer_read _ _ _ _ _ _ _ _ c.in-Some.command reads.read
