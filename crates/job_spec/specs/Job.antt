-- What a job text says, and why one is refused.
--     IsRefusal bytes fault      the text is refused for this
--     IsJobOf bytes settings seeds scope      the text is a job, and this is what it says
use Rattle.std.specs.Prelude.{◌≡◌, ℕ, ◌<◌, ◌≤◌, ⊤, List, length, All, Some, None, IsUtf8}
use Rattle.crawl_kinds.specs.declared.settings.Settings.{Settings}
use Rattle.toml.specs.Data.{Members}
use Rattle.toml.specs.Parse.{parse_document}
use Rattle.scope_spec.specs.Decision.{ScopeRules, first_bad}
use Rattle.seed_list.specs.Lines.{lines}
use Rattle.seed_list.specs.Seeds.{seeds_of, prefixes_of}
use Rattle.seed_list.specs.Bad.{IsRefused, IsBadLine, most_text}
use Rattle.job_spec.specs.declared.fault.JobFault.{JobFault}
use Rattle.job_spec.specs.declared.fault.JobFault.TheVariants as fault
use Rattle.job_spec.specs.Gives.{seeds_text, settings_in}
use Rattle.job_spec.specs.Missing.{missing_name}
use Rattle.job_spec.specs.OutOfRange.{out_of_range}
use Rattle.job_spec.specs.Rules.{rules_in}
use Rattle.job_spec.specs.Unknown.{unknown_name}

-- the bytes are the text of a table
pub record IsTextOf (bytes : List ℕ) (table : Members) : Type 0 where
  pub short : length bytes ≤ most_text
  pub text : IsUtf8 bytes
  pub reads : parse_document bytes ≡ Some table

-- all names of a table are known
abbrev pub HasKnownNames : Members → Type 0
HasKnownNames table = unknown_name table ≡ None

-- and all stand there that are needed
abbrev pub IsComplete : Members → Type 0
IsComplete table = HasKnownNames table × (missing_name table ≡ None)

-- and all values are taken
abbrev pub IsWithinRanges : Members → Type 0
IsWithinRanges table = IsComplete table × (out_of_range table ≡ None)

-- and no line of the seeds is bad
abbrev pub HasGoodSeeds : Members → Type 0
HasGoodSeeds table = IsWithinRanges table × All (λ line. IsRefused line → ⊥) (lines (seeds_text table))

-- why a table is no job: the first of these that holds; for want of memory it may be refused at any time
unfoldable pub IsRefusalOf : Members → JobFault → Type 0
IsRefusalOf table (fault.UnknownName name) = unknown_name table ≡ Some name
IsRefusalOf table (fault.Missing name) = HasKnownNames table × (missing_name table ≡ Some name)
IsRefusalOf table (fault.OutOfRange name) = IsComplete table × (out_of_range table ≡ Some name)
IsRefusalOf table (fault.BadSeed line) = IsWithinRanges table × IsBadLine IsRefused (lines (seeds_text table)) line
IsRefusalOf table (fault.BadPattern index) = HasGoodSeeds table × (first_bad (rules_in table) ≡ Some index)
IsRefusalOf table fault.NoMemory = ⊤
IsRefusalOf table other = ⊥

-- why bytes are no job
unfoldable pub IsRefusal : List ℕ → JobFault → Type 0
IsRefusal bytes fault.NoMemory = ⊤
IsRefusal bytes fault.TooLong = most_text < length bytes
IsRefusal bytes fault.NotToml = (length bytes ≤ most_text) × (IsUtf8 bytes → parse_document bytes ≡ None)
IsRefusal bytes other = (table : Members) × IsTextOf bytes table × IsRefusalOf table other

-- a table is a job with these settings, seeds and scope
pub record IsJobOfTable (table : Members) (settings : Settings) (seeds : List (List ℕ)) (scope : ScopeRules) : Type 0 where
  pub good : HasGoodSeeds table
  pub patterns : first_bad (rules_in table) ≡ None
  pub same_settings : settings ≡ settings_in table
  pub same_seeds : seeds ≡ seeds_of (seeds_text table)
  pub same_scope : scope ≡ record { rules = rules_in table; seeds = prefixes_of (seeds_text table) }

-- the bytes are a job with these settings, seeds and scope
pub record IsJobOf (bytes : List ℕ) (settings : Settings) (seeds : List (List ℕ)) (scope : ScopeRules) : Type 0 where
  pub table : Members
  pub of : IsTextOf bytes table
  pub is : IsJobOfTable table settings seeds scope
