use Rattle.std.proofs.Common.{refl}
use Rattle.url.proofs.OnLiterals.{url_on_literals}
use Rattle.seed_list.specs.Lines.{trimmed}
use Rattle.seed_list.specs.Seeds.{is_refused, prefix_behind, prefix_of, prefix_of_seed, prefixes_in, seed_of, seeds_in}
use Rattle.seed_list.proofs.laws.worked_examples.Goals as goal

pub returns : goal.returns
unfolding url_on_literals trimmed seed_of prefix_of_seed prefix_behind prefix_of is_refused seeds_in prefixes_in
returns c = record {
  ends = refl;
  empty = refl;
  last = refl;
  inside = refl;
  count = refl;
  comment = refl;
  nothing = refl;
  mark = refl;
  seed = refl;
  bare = refl;
  prefix = refl;
  stated = refl;
  made = refl;
  spaced = refl;
  none = refl;
  scheme = refl;
  marked = refl;
  passed = refl;
}
