use mathlib.Core.Path.{◌∙◌}
use native.Mathlib.Omega.{arith}
use mir.Syntax.{w32}
use mir.Facts.{to_z-of_z}
use Rattle.transpose.proofs.Shown.{frame_shown}
use Rattle.transpose.proofs.frame.frame_at.Goals as goal

pub returns : goal.returns
returns c =
    let id = c.id_shown-id in
    (λ i. record {
      version = c.version_shown-version.ensures i;
      id = (to_z-of_z {w = w32} {z = id.result} (record { sfits = id.type_inv }) ∙ id.ensures) i;
      port_count = c.count_shown-port_count.ensures i;
      ports = c.ports_at-ports.ensures i;
      start = c.frame_start_at-start.ensures i;
      end = c.frame_end_at-end.ensures i;
      items = c.range_shown-items.ensures i;
      fod_platforms = c.range_shown-fod_platforms.ensures i;
      dreamland_whispys = c.range_shown-dreamland_whispys.ensures i;
      stadium_transformations = c.range_shown-stadium_transformations.ensures i;
    })
    ∙ frame_shown _ _ _

pub id_shown-id-requires : goal.id_shown-id-requires
id_shown-id-requires c = λ e. let p = c.requires e in omega (arith, p.ids_fit, p.players.frame)

pub ports_at-ports-requires : goal.ports_at-ports-requires
ports_at-ports-requires c = λ e. (c.requires e).players

pub frame_start_at-start-requires : goal.frame_start_at-start-requires
frame_start_at-start-requires c = λ e. (c.requires e).start

pub frame_end_at-end-requires : goal.frame_end_at-end-requires
frame_end_at-end-requires c = λ e. (c.requires e).end

pub range_shown-items-requires : goal.range_shown-items-requires
range_shown-items-requires c = λ e. let p = c.requires e in (p.items, p.players.frame)

pub range_shown-fod_platforms-requires : goal.range_shown-fod_platforms-requires
range_shown-fod_platforms-requires c = λ e. let p = c.requires e in (p.fods, p.players.frame)

pub range_shown-dreamland_whispys-requires : goal.range_shown-dreamland_whispys-requires
range_shown-dreamland_whispys-requires c = λ e. let p = c.requires e in (p.whispys, p.players.frame)

pub range_shown-stadium_transformations-requires : goal.range_shown-stadium_transformations-requires
range_shown-stadium_transformations-requires c = λ e. let p = c.requires e in (p.stadiums, p.players.frame)
