-- The table of a job's rules: the name of each kind, its fields, and those that it needs.
use Rattle.std.specs.Prelude.{ℕ, List, [], ◌∷◌, codes}
use Rattle.job_spec.specs.declared.rule.Field.{Field}
use Rattle.job_spec.specs.declared.rule.Field.TheVariants.{Answer, Prefixes, Seeds, Max, Speculative, Patterns, Names}
use Rattle.job_spec.specs.declared.rule.Kind.{Kind}
use Rattle.job_spec.specs.declared.rule.Kind.TheVariants.{Accept, Reject, Surts, Hops, Transclusion, Regex, Pathological, Segments, Schemes}

-- the field that every rule has
unfoldable pub kind_field : List ℕ
kind_field = codes "kind"

-- the name of a field
unfoldable pub field_name : Field → List ℕ
field_name Answer = codes "answer"
field_name Prefixes = codes "prefixes"
field_name Seeds = codes "seeds"
field_name Max = codes "max"
field_name Speculative = codes "speculative"
field_name Patterns = codes "patterns"
field_name Names = codes "names"

-- the name of a kind
unfoldable pub kind_name : Kind → List ℕ
kind_name Accept = codes "accept"
kind_name Reject = codes "reject"
kind_name Surts = codes "surts"
kind_name Hops = codes "hops"
kind_name Transclusion = codes "transclusion"
kind_name Regex = codes "regex"
kind_name Pathological = codes "pathological"
kind_name Segments = codes "segments"
kind_name Schemes = codes "schemes"

-- all fields
abbrev pub fields : List Field
fields = Answer ∷ Prefixes ∷ Seeds ∷ Max ∷ Speculative ∷ Patterns ∷ Names ∷ []

-- all kinds
abbrev pub kinds : List Kind
kinds = Accept ∷ Reject ∷ Surts ∷ Hops ∷ Transclusion ∷ Regex ∷ Pathological ∷ Segments ∷ Schemes ∷ []

-- the fields of a kind
unfoldable pub fields_of : Kind → List Field
fields_of Accept = []
fields_of Reject = []
fields_of Surts = Answer ∷ Prefixes ∷ Seeds ∷ []
fields_of Hops = Max ∷ []
fields_of Transclusion = Max ∷ Speculative ∷ []
fields_of Regex = Answer ∷ Patterns ∷ []
fields_of Pathological = Max ∷ []
fields_of Segments = Max ∷ []
fields_of Schemes = Names ∷ []

-- those that a rule of the kind has to give: all but those with a default
unfoldable pub needed_of : Kind → List Field
needed_of Surts = Answer ∷ []
needed_of kind = fields_of kind
