use Rattle.small_caps.specs.inside.Search.{question_of}
use Rattle.small_caps.proofs.Searching.{better_made, better_kept}
use Rattle.small_caps.proofs.search.Search.better.Goals as goal

pub returns-in-Some-clause-better : goal.returns-in-Some-clause-better
returns-in-Some-clause-better c =
    better_made (question_of c.args.self.now) c.args.pick.front c.args.pick.last c.args.best c.first_of.result c.in-Some.found c.requires.found (rw c.in-Some.is at c.in_ok-found.ensures.made) c.first_of.ensures.keeps c.first_of.ensures.covers c.first_of.ensures.one

pub returns-in-None-clause-better : goal.returns-in-None-clause-better
returns-in-None-clause-better c =
    better_kept (question_of c.args.self.now) c.args.pick.front c.args.pick.last c.args.best c.requires.found (rw c.in-None.is at c.in_ok-found.ensures.made)
