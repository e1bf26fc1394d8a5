-- Two parts of the time of a link are within the whole.
use Rattle.std.proofs.Common.{◌≡◌, ℕ, refl, sym, subst, arith}
use Rattle.std.specs.Prelude.{IsTrue}
use Rattle.crawl_kinds.specs.declared.settings.Settings.{Settings}
use Rattle.crawl_traits.specs.declared.link.Link.{Ghosts}
use Rattle.process_chains.specs.Ends.{world}
use Rattle.visit_laws.specs.Laws.{IsOnward, IsWithin}

module _ {L : Type 0} (link : Ghosts L) (gives : ℕ → Type 0) (own settings : Settings) (start middle now : L) (same : own ≡ settings) where
  -- the first part
  pub first_within : IsOnward link start middle → IsOnward link middle now → IsWithin (world link gives own start middle) (world link gives settings start now)
  first_within to from =
      record {
        given = λ moment given. given;
        rose = λ fault rose. omega (arith, from.later fault);
        tells = refl;
        connected = λ tells shut. from.shut (subst IsTrue (sym to.tells) tells) shut;
        settings = same;
      }

  -- the second part
  pub second_within : IsOnward link start middle → IsWithin (world link gives own middle now) (world link gives settings start now)
  second_within to =
      record {
        given = λ moment given. given;
        rose = λ fault rose. omega (arith, to.later fault);
        tells = to.tells;
        connected = λ tells shut. shut;
        settings = same;
      }
