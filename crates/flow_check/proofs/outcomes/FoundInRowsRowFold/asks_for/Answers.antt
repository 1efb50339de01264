use Rattle.std.proofs.{Common.{subst, arith}, lemmas.Bool.{OnFalse_at, OnFalse_from}}
use Rattle.osek_values.specs.Numbers.{block_no}
use Rattle.osek_standard.specs.{declared.point.Point.{Point}, Points.{StandsAt}}
use Rattle.flow_check.proofs.RowOutcomes.{stands_known, row_passed}
use Rattle.flow_check.proofs.outcomes.FoundInRowsRowFold.asks_for.Goals as goal

pub is_at_site-requires : goal.is_at_site-requires
is_at_site-requires c = λ b stands. omega (arith, stands_known c.args._app.now c.args.point b c.requires.point stands, c.requires.so_far.is.count)

pub returns : goal.returns
returns c = OnFalse_from c.is_at_site.result _ (λ no rows row at found.
    row_passed c.args._app.now rows row c.args.self.now.sites
    (λ b stands. OnFalse_at no c.is_at_site.ensures (block_no b) (subst (λ (p : Point). StandsAt p (block_no b)) at stands)) found)
