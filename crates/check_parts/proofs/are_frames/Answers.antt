use borrow.Author.Rules.{rules}
use Rattle.check_parts.proofs.Tests.{frames_under, frames_end, frames_wrong}
use Rattle.check_parts.proofs.are_frames.Goals as goal

pub frames-ran-requires : goal.frames-ran-requires
frames-ran-requires c = let w = c.requires in (w.under, w.long, w.all_codes)

pub ends_fill-requires : goal.ends_fill-requires
ends_fill-requires c =
    let a = c.args in
    let r = c.frames-ran in
    record {
      under = frames_under a.v a.file.now a.spans.now a.stop a.place r.result r.ensures.0 c.in-Ended.at c.in-Ended.tally c.in-Ended.is c.requires.under;
      long = c.requires.long;
      all_codes = c.requires.all_codes;
    }

pub returns-in-Ended : goal.returns-in-Ended
returns-in-Ended c =
    let a = c.args in
    let r = c.frames-ran in
    let w = c.ends_fill in
    frames_end a.v a.file.now a.spans.now a.stop a.place r.result r.ensures.0 c.in-Ended.at c.in-Ended.tally c.in-Ended.is w.result w.ensures

pub returns-in-Wrong : goal.returns-in-Wrong
returns-in-Wrong c =
    let a = c.args in
    let r = c.frames-ran in
    frames_wrong a.v a.file.now a.spans.now a.stop a.place r.result r.ensures.0 c.in-Wrong.is
