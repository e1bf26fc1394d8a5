-- Which candidates the scope takes.
--     is_in_scope f h item      whether it takes the item
use Rattle.std.specs.Prelude.{ℕ, Bool, ◌&&◌, nat_le, length}
use Rattle.crawl_kinds.specs.declared.item.Item.{Item}
use Rattle.crawl_history.specs.History.{History}
use Rattle.crawl_history.specs.Facts.{Facts}

-- the number of the scope that is in force: a job has one
abbrev pub scope_in_force : History → ℕ
scope_in_force h = 1

-- how many letters a path may have
abbrev pub most_letters : ℕ
most_letters = 250

-- whether the scope accepts the item; a path that is too long is refused whatever the rules say
abbrev pub is_in_scope : Facts → History → Item → Bool
is_in_scope f h item = nat_le (length item.path) most_letters && f.accepts (scope_in_force h) item.uri item.path
