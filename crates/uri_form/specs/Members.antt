-- How the members of a query are written one after another.
use Rattle.std.specs.Prelude.{ℕ, List, [], ◌∷◌, Option, option_map, if◌then◌else◌}
use Rattle.url.specs.Input.{lowercase}
use Rattle.uri_spec.specs.Key.{tidy_query}
use Rattle.uri_spec.specs.SessionId.{ampersand, is_id_member, query_without_ids}
use Rattle.uri_spec.specs.Surt.{query_text}

-- a member behind its `&`, unless it is a session id
abbrev pub member_text : List ℕ → List ℕ
member_text member = if is_id_member member then [] else ampersand ∷ member

-- what a key writes of a query
abbrev pub whole_query : Option (List ℕ) → List ℕ
whole_query query = query_text (tidy_query (option_map query_without_ids (option_map lowercase query)))
