use Rattle.std.proofs.Common.{refl}
use Rattle.line_host.proofs.session.Session.finish.Goals as goal

pub returns-in-Done : goal.returns-in-Done
returns-in-Done c = record {
  left = c.hear.new.self;
  read = c.hear.result;
  takes = c.hear.ensures;
  ends = λ _. c.end.ensures;
  stands = λ other. absurd (other c.in-Done.is);
}

pub returns-in_default : goal.returns-in_default
returns-in_default c = record {
  left = c.hear.new.self;
  read = c.hear.result;
  takes = c.hear.ensures;
  ends = λ done. absurd (c.in_default.not-Done done);
  stands = λ _. (refl, refl);
}
