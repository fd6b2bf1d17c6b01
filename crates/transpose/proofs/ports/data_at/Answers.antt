use mathlib.Core.Path.{sym, ◌∙◌}
use Rattle.transpose.proofs.Shown.{data_shown}
use Rattle.transpose.proofs.ports.data_at.Goals as goal

pub pre_at-pre-requires : goal.pre_at-pre-requires
pre_at-pre-requires c = λ e. rw c.unwrap_or-at.ensures (c.requires (sym c.is_some-shown.ensures ∙ e)).pre

pub post_at-post-requires : goal.post_at-post-requires
post_at-post-requires c = λ e. rw c.unwrap_or-at.ensures (c.requires (sym c.is_some-shown.ensures ∙ e)).post

pub returns : goal.returns
returns c =
    let mark = c.args.mark in
    rw (← c.unwrap_or-at.ensures, ← c.is_some-shown.ensures)
    ((λ i. record { present = mark; pre = c.pre_at-pre.ensures i; post = c.post_at-post.ensures i }) ∙ data_shown _ mark _ _ _ _)
