-- No call that gives a `Result` and meets its promise is one of the wrong programs that 01 lists: what it says in 01's numbers and values is a function
-- of the other files, and none of those is. Assumes nothing.
use Rattle.acceptance.specs.Wrong.{Rejected, reader_of, disperser_of, listener_of}
use Rattle.acceptance.proofs.Rejected.{no_copier}
use Rattle.acceptance.proofs.RejectedReader.{no_refuser_of_packets, no_fixed_record}
use Rattle.acceptance.proofs.RejectedReceiver.{no_silent_receiver}

pub rejected : Rejected
rejected =
    record {
      refuser = λ f. no_refuser_of_packets (reader_of f);
      fixed_record = λ f. no_fixed_record (reader_of f);
      copier = λ f. no_copier (disperser_of f);
      silent = λ f. no_silent_receiver (listener_of f);
    }
