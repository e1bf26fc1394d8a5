-- How a command ends: the line that it prints and the number that it ends with.
--     file_name file      the name of a file of the volume
--     fault_text fault      why a text is no job
--     status_text status, code_of status      the line, and the number
use Rattle.std.specs.Prelude.{ℕ, ◌-◌, List, [], ◌∷◌, ◌++◌, length, replicate, codes, if◌then◌else◌}
use Rattle.std.specs.Fmt.{decimal}
use Rattle.std.specs.List.{flat_map}
use Rattle.crawl_kinds.specs.Text.{is_visible}
use Rattle.crawl_traits.specs.declared.file.FileId.{FileId}
use Rattle.crawl_traits.specs.declared.file.FileId.TheVariants.{Job, Manifest, Journal, Checkpoint, Warc}
use Rattle.job_spec.specs.declared.fault.JobFault.{JobFault}
use Rattle.job_spec.specs.declared.fault.JobFault.TheVariants as fault
use Rattle.program_status.specs.declared.status.Status.{Status}
use Rattle.program_status.specs.declared.status.Status.TheVariants.{Done, Usage, JobRefused, VolumeFault, Damaged, SinkFault, Full, NoMemory, NoJob, JobThere, SourceFault}

-- a number in decimal, with zeros in front up to five digits
abbrev pub five_digits : ℕ → List ℕ
five_digits n = replicate (5 - length (decimal n)) 48 ++ decimal n

-- the name of a file
unfoldable pub file_name : FileId → List ℕ
file_name Job = codes "job"
file_name Manifest = codes "manifest"
file_name (Journal n) = codes "journal." ++ five_digits n
file_name (Checkpoint n) = codes "checkpoint." ++ five_digits n
file_name (Warc n) = codes "WEB-" ++ five_digits n ++ codes ".warc"

-- a byte as it is printed: `?` where it can't be seen
abbrev pub printed_byte : ℕ → ℕ
printed_byte b = if is_visible b then b else 63

-- a name in a refusal
abbrev pub printed : List ℕ → List ℕ
printed name = flat_map (λ b. printed_byte b ∷ []) name

-- why a text is no job
unfoldable pub fault_text : JobFault → List ℕ
fault_text fault.TooLong = codes "TooLong"
fault_text fault.NotToml = codes "NotToml"
fault_text (fault.UnknownName name) = codes "UnknownName " ++ printed name
fault_text (fault.Missing name) = codes "Missing " ++ printed name
fault_text (fault.OutOfRange name) = codes "OutOfRange " ++ printed name
fault_text (fault.BadSeed line) = codes "BadSeed " ++ decimal line
fault_text (fault.BadPattern index) = codes "BadPattern " ++ decimal index
fault_text fault.NoMemory = codes "NoMemory"

-- the line of a status
unfoldable pub status_text : Status → List ℕ
status_text Done = []
status_text (Usage word) = codes "usage: word " ++ decimal word ++ codes "\n"
status_text (JobRefused fault) = codes "job refused: " ++ fault_text fault ++ codes "\n"
status_text VolumeFault = codes "volume fault\n"
status_text (Damaged file at) = codes "damaged: " ++ file_name file ++ codes " at " ++ decimal at ++ codes "\n"
status_text SinkFault = []
status_text (Full known adds) = codes "full: " ++ decimal known ++ codes " known, " ++ decimal adds ++ codes " new\n"
status_text NoMemory = codes "no memory\n"
status_text NoJob = codes "no job\n"
status_text JobThere = codes "job there\n"
status_text SourceFault = codes "source fault\n"

-- the number with which the program ends
abbrev pub code_of : Status → ℕ
code_of Done = 0
code_of (Usage word) = 1
code_of (JobRefused fault) = 2
code_of VolumeFault = 3
code_of (Damaged file at) = 4
code_of SinkFault = 5
code_of (Full known adds) = 6
code_of NoMemory = 7
code_of NoJob = 8
code_of JobThere = 9
code_of SourceFault = 10
