-- `rows::post::post_of` meets its contract: the row, with what each call ensures in its field.
use Rattle.layout.specs.Columns.{columns_of}
use Rattle.rows.specs.Inner.{width_at}
use Rattle.rows.proofs.post.post_of.Goals as goal

pub overflow_cast-result : goal.overflow_cast-result
unfolding width_at columns_of
overflow_cast-result c = record { fits = c.requires 0 }

pub overflow_cast-result-2 : goal.overflow_cast-result-2
unfolding width_at columns_of
overflow_cast-result-2 c = record { fits = c.requires 1 }

pub overflow_cast-result-3 : goal.overflow_cast-result-3
unfolding width_at columns_of
overflow_cast-result-3 c = record { fits = c.requires 7 }

pub overflow_cast-result-4 : goal.overflow_cast-result-4
unfolding width_at columns_of
overflow_cast-result-4 c = record { fits = c.requires 8 }

pub overflow_cast-result-5 : goal.overflow_cast-result-5
unfolding width_at columns_of
overflow_cast-result-5 c = record { fits = c.requires 9 }

pub overflow_cast-result-6 : goal.overflow_cast-result-6
unfolding width_at columns_of
overflow_cast-result-6 c = record { fits = c.requires 10 }

pub overflow_cast-result-7 : goal.overflow_cast-result-7
unfolding width_at columns_of
overflow_cast-result-7 c = record { fits = c.requires 12 }

pub overflow_cast-result-8 : goal.overflow_cast-result-8
unfolding width_at columns_of
overflow_cast-result-8 c = record { fits = c.requires 13 }

pub overflow_cast-result-9 : goal.overflow_cast-result-9
unfolding width_at columns_of
overflow_cast-result-9 c = record { fits = c.requires 14 }

pub overflow_cast-result-10 : goal.overflow_cast-result-10
unfolding width_at columns_of
overflow_cast-result-10 c = record { fits = c.requires 15 }

pub overflow_cast-result-11 : goal.overflow_cast-result-11
unfolding width_at columns_of
overflow_cast-result-11 c = record { fits = c.requires 16 }

pub overflow_cast-result-12 : goal.overflow_cast-result-12
unfolding width_at columns_of
overflow_cast-result-12 c = record { fits = c.requires 18 }

pub overflow_cast-result-13 : goal.overflow_cast-result-13
unfolding width_at columns_of
overflow_cast-result-13 c = record { fits = c.requires 19 }

pub overflow_cast-result-14 : goal.overflow_cast-result-14
unfolding width_at columns_of
overflow_cast-result-14 c = record { fits = c.requires 20 }

pub overflow_cast-result-15 : goal.overflow_cast-result-15
unfolding width_at columns_of
overflow_cast-result-15 c = record { fits = c.requires 21 }

pub overflow_cast-result-16 : goal.overflow_cast-result-16
unfolding width_at columns_of
overflow_cast-result-16 c = record { fits = c.requires 22 }

pub overflow_cast-result-17 : goal.overflow_cast-result-17
unfolding width_at columns_of
overflow_cast-result-17 c = record { fits = c.requires 30 }

pub overflow_cast-result-18 : goal.overflow_cast-result-18
unfolding width_at columns_of
overflow_cast-result-18 c = record { fits = c.requires 31 }
