use Rattle.start_block.proofs.field.put_flag.Goals as goal

pub returns : goal.returns
returns c = rw (← c.flag_of.ensures) c.put_number.ensures
