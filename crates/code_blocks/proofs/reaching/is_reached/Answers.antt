use Rattle.code_blocks.proofs.Ways.{reached_is}
use Rattle.code_blocks.proofs.reaching.is_reached.Goals as goal

pub returns : goal.returns
returns c = λ is s.
    let told = c.reaches.ensures s.graph 0 s.search in
    let same = reached_is is s.graph s.edges c.args.pc in
    (λ h. same.0 (told.0 h), λ h. told.1 (same.1 h))
