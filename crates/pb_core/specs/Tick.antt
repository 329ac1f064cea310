-- The box with its stimulus, and what PCAP hands out.
pub use Rattle.pb_still.specs.Driving.{is_high, levels_at, encoders_at, driven, stimulated, tick}
use Rattle.pb_buses.specs.declared.Emit.{Emit}
use Rattle.pb_buses.specs.declared.Emit.TheVariants as emits
use Rattle.pb_acquire.specs.Acquisitions.{AllAcquisitions, recorded, ended}

-- what PCAP hands out goes to the acquisition that is armed or running: a record more, or that it is over
abbrev pub taken : Emit → AllAcquisitions → AllAcquisitions
taken emits.Nothing all = all
taken (emits.Record row) all = recorded row all
taken (emits.Completed condition) all = ended condition all
