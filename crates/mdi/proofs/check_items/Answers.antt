-- `mdi::check_items` meets its contract. Assumes nothing.
use Rattle.mdi.proofs.Checks.{no_4, no_5, no_6, no_7, no_8, no_more}
use Rattle.mdi.proofs.check_items.Goals as goal

pub returns-then-missing : goal.returns-then-missing
returns-then-missing c = search no_4

pub returns-then-bad_length : goal.returns-then-bad_length
returns-then-bad_length c = search no_5

pub returns-then-bad_value : goal.returns-then-bad_value
returns-then-bad_value c = search no_6

pub returns-then-bad_fac : goal.returns-then-bad_fac
returns-then-bad_fac c = search no_7

pub returns-then-bad_sdc : goal.returns-then-bad_sdc
returns-then-bad_sdc c = search no_8

pub returns : goal.returns
returns c = search no_more
