-- What a function promises of a version's events.
-- Assumes nothing.
use Rattle.std.specs.Prelude.{◌+◌}
use Rattle.format.specs.declared.version.Version.{Version}
use Rattle.layout.specs.Columns.{sum, widths_of}
use Rattle.layout.specs.declared.columns.Family.TheVariants.{Pre, Post, FrameStart, Item, FrameEnd, FodPlatform, DreamlandWhispy, StadiumTransformation}
use Rattle.read_event.specs.declared.spans.Spans.{Spans}

-- how many bytes they have
abbrev pub spans_in : Version → Spans
spans_in v = record {
  pre = 7 + sum (widths_of Pre v);
  post = 7 + sum (widths_of Post v);
  start = 5 + sum (widths_of FrameStart v);
  item = 5 + sum (widths_of Item v);
  end = 5 + sum (widths_of FrameEnd v);
  fod = 5 + sum (widths_of FodPlatform v);
  whispy = 5 + sum (widths_of DreamlandWhispy v);
  stadium = 5 + sum (widths_of StadiumTransformation v);
}
