use Rattle.std.specs.Prelude.{[], ◌∷◌, ◌/◌, ◌<◌}
use Rattle.small_caps.specs.declared.pick.Front.TheVariants.{Two}
use Rattle.small_caps.specs.inside.Search.{question_of}
use Rattle.small_caps.proofs.Searching.{left_more, kept_front}
use Rattle.small_caps.proofs.search.Search.better_second.Goals as goal

pub returns-then-first-second-clause-better : goal.returns-then-first-second-clause-better
returns-then-first-second-clause-better c =
    let q = question_of c.args.self.now in
    kept_front q c.args.best (Two c.args.first c.args.second) c.rest_of-key.result (c.args.first / 2 < c.args.second / 2) c.better_behind.result c.requires.ready
    (left_more q (c.args.first ∷ []) c.args.second c.args.left c.key.result c.rest_of-key.result c.requires.left c.key.ensures c.rest_of-key.ensures) c.better_behind.ensures.better
