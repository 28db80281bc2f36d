-- What the private functions that put a FAC together ask of their callers: that its fields fit their bits. No promise of a public call names it.
-- Assumes nothing.
use Rattle.std.specs.Prelude.{◌^◌, ◌<◌}
use Rattle.fac.specs.declared.Fac.{Fac}

-- fields that fit their bits: those of the channel, and those of the service
pub record ChannelFits (f : Fac) : Type 0 where
  pub base : f.base < 2
  pub identity : f.identity < 4
  pub rm : f.rm < 2
  pub occupancy : f.occupancy < 8
  pub interleaver : f.interleaver < 2
  pub msc : f.msc < 4
  pub sdc : f.sdc < 2
  pub services : f.services < 16
  pub reconfiguration : f.reconfiguration < 8
  pub channel : f.channel < 4

pub record ServiceFits (f : Fac) : Type 0 where
  pub service : f.service < 2 ^ 24
  pub short : f.short < 4
  pub audio_ca : f.audio_ca < 2
  pub language : f.language < 16
  pub audio_data : f.audio_data < 2
  pub descriptor : f.descriptor < 32
  pub data_ca : f.data_ca < 2
  pub reserved : f.reserved < 64
