-- `Cache::has` meets its contract: the library's search is `present`. Assumes nothing.
use Rattle.std.proofs.Common.{◌∙◌, ap, rules, tests}
use Rattle.std.proofs.lemmas.Iterator.{YieldsList-from_slice}
use Rattle.std.proofs.lemmas.Iterator.Search.{any_from_yields_List}
use Rattle.replay.specs.declared.entry.Entry.{Entry}
use Rattle.replay.specs.Cache.{Swept, same, present, entries}
use Rattle.replay.proofs.CacheLaws.Entries.{present_any}
use Rattle.replay.proofs.cache.Cache.has.Goals as goal

pub returns : goal.returns
returns c =
    any_from_yields_List (λ (x : Entry). same x c.args.e) _ _ _ c.any.ensures.ran (YieldsList-from_slice (entries c.self.inside.places c.self.inside.count) (search rules)) (λ x b q k. search (rules, tests))
    ∙ present_any c.args.e _ ∙ ap (λ (s : Swept). present (entries s.places s.count) c.args.e) c.self.view_is
