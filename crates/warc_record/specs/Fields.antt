-- Fields as they are handed in.
use Rattle.std.specs.Prelude.{List, map}
use Rattle.record_spec.specs.Record.{Field as Pair}
use Rattle.warc_record.specs.declared.record.Field.{Field}

-- the names and the values
abbrev pub pairs : List Field → List Pair
pairs fields = map (λ field. (field.name.now, field.value.now)) fields
