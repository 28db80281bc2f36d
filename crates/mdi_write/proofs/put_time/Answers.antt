-- `mdi_write::put_time` meets its contract. Assumes nothing.
use Rattle.mdi_write.proofs.Values.{time_none, time_ready, time_some}
use Rattle.mdi_write.proofs.put_time.Goals as goal

pub put_stamp-requires : goal.put_stamp-requires
put_stamp-requires c =
    let t = time_ready c.args.time c.args.out.now _ _ c.in-Some.is c.requires.1 c.requires.2 in
    (c.requires.0, t.0, t.1)

pub returns-in-None : goal.returns-in-None
returns-in-None c = let both = time_none c.args.time c.args.out.now _ c.in-None.is in record { value = both.0; out_after = both.1 }

pub returns-in-Some : goal.returns-in-Some
returns-in-Some c = let both = time_some c.args.time c.args.out.now _ _ _ _ c.in-Some.is c.put_stamp.ensures.value c.put_stamp.ensures.out_after in record { value = both.0; out_after = both.1 }
