use Rattle.std.proofs.Common.{codes, refl}
use Rattle.clap.specs.Words.{found_of}
use Rattle.program_words.proofs.Asked.{named, unnamed}
use Rattle.program_words.proofs.wishes.feed_and_site.Goals as goal

pub returns-in-Some-site_of-clause-some : goal.returns-in-Some-site_of-clause-some
returns-in-Some-site_of-clause-some c = (
  named (codes "feed") (found_of c.args.matches.now) c.get_str.result c.in-Some.feed c.get_str.ensures c.in-Some.is,
  c.in-Some-site_of.ensures.some,
)

pub returns-in-None-site_of-clause-none : goal.returns-in-None-site_of-clause-none
returns-in-None-site_of-clause-none c none feed site names = c.in-None-site_of.ensures.none refl site names.1

pub returns-in-None-clause-none : goal.returns-in-None-clause-none
returns-in-None-clause-none c none feed site names = unnamed (codes "feed") (found_of c.args.matches.now) c.get_str.result c.get_str.ensures c.in-None.is feed names.0
