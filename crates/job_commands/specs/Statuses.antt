-- Which statuses a command ends with, and how far it had come.
--     IsRefusal status      answered before anything is written
--     SaysText status      the status has a line
--     status_of, status_of_load, status_of_stop      the status of a fault of the volume, of reading a job, of adding seeds
use Rattle.crawl_traits.specs.declared.fault.StoreFault.{StoreFault}
use Rattle.crawl_traits.specs.declared.fault.StoreFault.TheVariants as store
use Rattle.open_crawl.specs.declared.fault.LoadFault.{LoadFault}
use Rattle.open_crawl.specs.declared.fault.LoadFault.TheVariants as load
use Rattle.open_crawl.specs.declared.fault.SeedsStop.{SeedsStop}
use Rattle.open_crawl.specs.declared.fault.SeedsStop.TheVariants as stop
use Rattle.program_status.specs.declared.status.Status.{Status}
use Rattle.program_status.specs.declared.status.Status.TheVariants.{Done, Usage, JobRefused, VolumeFault, Damaged, SinkFault, Full, NoMemory, NoJob, JobThere, SourceFault}

-- answered before anything is written
abbrev pub IsRefusal : Status → Type 0
IsRefusal (Usage i) = Unit {0}
IsRefusal (JobRefused fault) = Unit {0}
IsRefusal NoJob = Unit {0}
IsRefusal JobThere = Unit {0}
IsRefusal SourceFault = Unit {0}
IsRefusal Done = ⊥
IsRefusal VolumeFault = ⊥
IsRefusal (Damaged file at) = ⊥
IsRefusal SinkFault = ⊥
IsRefusal (Full known adds) = ⊥
IsRefusal NoMemory = ⊥

-- neither Done nor SinkFault: the status has a line
abbrev pub SaysText : Status → Type 0
SaysText Done = ⊥
SaysText SinkFault = ⊥
SaysText _ = Unit {0}

-- the status of a fault of the volume
abbrev pub status_of : StoreFault → Status
status_of store.Volume = VolumeFault
status_of (store.Damaged file at) = Damaged file at
status_of store.NoMemory = NoMemory

-- the status where no job can be read
abbrev pub status_of_load : LoadFault → Status
status_of_load load.NoJob = NoJob
status_of_load (load.Store fault) = status_of fault

-- the status where no seeds can be added
abbrev pub status_of_stop : SeedsStop → Status
status_of_stop (stop.Full known adds) = Full known adds
status_of_stop stop.Volume = VolumeFault
status_of_stop stop.NoMemory = NoMemory
