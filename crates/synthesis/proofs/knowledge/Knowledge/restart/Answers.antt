-- `synthesis::knowledge::Knowledge::restart` meets its contract. Assumes nothing.
use Rattle.std.proofs.Common.{◌≡◌, length, rules}
use Rattle.synthesis.proofs.KnowledgeLaws.{restarted}
use Rattle.synthesis.proofs.knowledge.Knowledge.restart.Goals as goal

pub returns : goal.returns
returns c =
    let eight : length c.saturate-self.result ≡ 8 = search rules in
    restarted eight c.saturate-self.ensures c.requires.2 c.load-self.ensures.0
