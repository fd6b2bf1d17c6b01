use borrow.Author.Rules.{rules}
use Rattle.index_calls.proofs.Laws.{opens_not, too_old, too_short_lem, too_big_lem, none_later}
use Rattle.index_calls.proofs.later.Goals as goal

pub first_event-e-requires : goal.first_event-e-requires
first_event-e-requires c = let s = c.requires.0 in (s.starts, s.within, s.many)

pub returns-in_default : goal.returns-in_default
returns-in_default c = let s = c.requires in let q = c.first_event-e in opens_not s.0 s.1 q.result q.ensures c.in_default.is

pub short_start-requires : goal.short_start-requires
short_start-requires c = c.requires.0.many

pub returns-then-short_start : goal.returns-then-short_start
returns-then-short_start c =
    let s = c.requires in
    let q = c.first_event-e in
    too_short_lem s.0 s.1 c.in-Opens.version c.in-Opens.len q.result q.ensures c.in-Opens.is c.gte.result c.gte.ensures c.if-gte.true c.short_start.result c.short_start.ensures c.if-short_start.true

pub returns-then-too_large : goal.returns-then-too_large
returns-then-too_large c =
    let s = c.requires in
    let q = c.first_event-e in
    too_big_lem s.0 s.1 c.in-Opens.version c.in-Opens.len q.result q.ensures c.in-Opens.is c.gte.result c.gte.ensures c.if-gte.true c.short_start.result
    c.short_start.ensures c.if-short_start.false c.too_large.result c.too_large.ensures c.if-too_large.true

pub returns-then-gte : goal.returns-then-gte
returns-then-gte c =
    let s = c.requires in
    let q = c.first_event-e in
    none_later s.0 s.1 c.in-Opens.version c.in-Opens.len q.result q.ensures c.in-Opens.is c.gte.result c.gte.ensures c.if-gte.true c.short_start.result
    c.short_start.ensures c.if-short_start.false c.too_large.result c.too_large.ensures c.if-too_large.false

pub returns : goal.returns
returns c =
    let s = c.requires in let q = c.first_event-e in too_old s.0 s.1 c.in-Opens.version c.in-Opens.len q.result q.ensures c.in-Opens.is c.gte.result c.gte.ensures c.if-gte.false
