-- `prefix::run_start` meets its contract: what the search for the prefix itself answers. Assumes nothing.
use mathlib.Core.Path.{ap, sym, ◌∙◌}
use Rattle.prefix.proofs.Run.{place_in, first_of}
use Rattle.prefix.proofs.run_start.Goals as goal

pub returns-in-At : goal.returns-in-At
returns-in-At c =
    first_of c.args.prefix.now c.args.node.now c.requires.1 _ (ap place_in (sym c.in-At.is ∙ c.search_key.ensures))

pub returns-in-Free : goal.returns-in-Free
returns-in-Free c =
    first_of c.args.prefix.now c.args.node.now c.requires.1 _ (ap place_in (sym c.in-Free.is ∙ c.search_key.ensures))
