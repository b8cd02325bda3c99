-- A cache of empty entries is sound.
use mathlib.Core.Path.{refl}
use Rattle.searcher.proofs.Caching.{empty-sound}
use Rattle.searcher.proofs.plan.Search.with_cache.Goals as goal

pub by_length-requires : goal.by_length-requires
by_length-requires c = (c.requires.0, c.requires.1, c.requires.2, empty-sound c.args.self.now 128 _ refl)
