-- How the list of links grows.
use Rattle.std.specs.Prelude.{ℕ, List, ◌++◌, take}
use Rattle.std.specs.List.{filter_map}
use Rattle.link_spec.specs.declared.reference.Ref.{Ref}
use Rattle.extract_spec.specs.declared.found.Found.{Found}
use Rattle.extract_spec.specs.Joining.{linked}
use Rattle.extract_spec.specs.Links.{most_links}

-- links and those that more references make, as many as there may be
abbrev pub with_refs : List Found → List ℕ → List Ref → List Found
with_refs links base refs = take most_links (links ++ filter_map (linked base) refs)
