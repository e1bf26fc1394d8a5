-- What the reading of one line answers.
use Rattle.std.specs.Prelude.{◌≡◌, ◌⊎◌, ℕ, ◌+◌, Option, Result, Err, ok_or}
use Rattle.crawl_kinds.specs.declared.text.TextFault.{TextFault}
use Rattle.crawl_kinds.specs.declared.text.TextFault.TheVariants as text
use Rattle.uri_form.specs.declared.fault.UriFault.{UriFault}
use Rattle.uri_form.specs.declared.fault.UriFault.TheVariants as uri
use Rattle.seed_list.specs.declared.fault.LineFault.{LineFault}
use Rattle.seed_list.specs.declared.fault.LineFault.TheVariants.{Refused, NoMemory}
use Rattle.seed_list.specs.declared.fault.SeedFault.{SeedFault}
use Rattle.seed_list.specs.declared.fault.SeedFault.TheVariants as answer

-- the value that is there, or that the line is refused where there is none, unless memory was refused
abbrev pub Answers : {T : Type 0} → Result T LineFault → Option T → Type 0
Answers result value = (result ≡ ok_or value Refused) ⊎ (result ≡ Err NoMemory)

-- the fault of a text by the fault of a line, behind so many others
abbrev pub fault_behind : ℕ → LineFault → SeedFault
fault_behind count Refused = answer.BadSeed (count + 1)
fault_behind count NoMemory = answer.NoMemory

-- every fault of an address but want of memory refuses the line
abbrev pub fault_of_uri : UriFault → LineFault
fault_of_uri (uri.TooLong len) = Refused
fault_of_uri uri.NotAUri = Refused
fault_of_uri uri.OtherScheme = Refused
fault_of_uri uri.NoMemory = NoMemory

-- and so does every fault of a text
abbrev pub fault_of_text : TextFault → LineFault
fault_of_text (text.TooLong len) = Refused
fault_of_text (text.BadByte at) = Refused
fault_of_text text.NoMemory = NoMemory
