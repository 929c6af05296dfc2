use Rattle.std.proofs.Common.{◌≡◌}
use Rattle.program_host.specs.Prompt.{IsHelped}
use Rattle.program_host.proofs.prompted.Prompted.ask.Given as goal

abbrev pub invariant-helps : goal.invariant-helps
invariant-helps g l = record {
  helped : IsHelped l.fn.self.begins (g.S.Read.remaining l.fn.self.stream) (g.S.Read.remaining l.self.stream);
  begins : l.self.begins ≡ l.fn.self.begins;
  talks : l.self.talks ≡ l.fn.self.talks;
}
