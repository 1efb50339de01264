use Rattle.std.proofs.Common.{◌∷◌, sym, ap, ◌∙◌, arith}
use Rattle.osek_values.specs.declared.limits.TheConstants.{MAX_OIL_DEPTH}
use Rattle.oil_lexer.specs.declared.token.{TokenKind.TheVariants.{Mark}, Mark.TheVariants.{OpenBrace}}
use Rattle.oil_lexer.proofs.Braces.{open_kind, front_is, deep}
use Rattle.oil_tree.specs.Expect.{some_balanced, scan}
use Rattle.oil_tree.proofs.BalancedRead.{reads_balanced, balanced_shorter, braces_join, braces_taken, other_joins, other_taken}
use Rattle.oil_tree.proofs.file.+balanced.Goals as goal

pub returns-then-is_close : goal.returns-then-is_close
returns-then-is_close t c = reads_balanced _ _ _ _ _ c.loop-token.invariant.joins c.loop-token.invariant.takes c.in_ok-token.ensures (sym c.is_close.ensures ∙ c.if-is_close.true)

pub returns-then-depth-ge-MAX_OIL_DEPTH : goal.returns-then-depth-ge-MAX_OIL_DEPTH
returns-then-depth-ge-MAX_OIL_DEPTH t c =
    let prefix = front_is _ (Mark OpenBrace) _ _ c.in_ok-token.ensures (open_kind _ (sym c.is_open.ensures ∙ c.if-is_open.true)) in
    λ stack. c.loop-token.invariant.takes stack ∙ ap (scan c.args.depth (some_balanced ∷ stack)) prefix ∙ deep MAX_OIL_DEPTH c.args.depth _ _ (omega arith)

pub loop-token-smaller-then-is_open : goal.loop-token-smaller-then-is_open
loop-token-smaller-then-is_open t c = balanced_shorter _ _ _ _ _ c.in_ok-token.ensures c.in_ok-rest.ensures

pub loop-token-preserved-then-is_open : goal.loop-token-preserved-then-is_open
loop-token-preserved-then-is_open t c =
    record {
      joins = λ last more. c.loop-token.invariant.joins last (braces_join _ _ _ _ _ last c.in_ok-token.ensures (sym c.is_open.ensures ∙ c.if-is_open.true) c.in_ok-rest.ensures more);
      takes = λ stack. c.loop-token.invariant.takes stack ∙ braces_taken _ _ stack _ _ _ c.in_ok-token.ensures (sym c.is_open.ensures ∙ c.if-is_open.true) (omega arith) c.in_ok-rest.ensures;
    }

pub loop-token-preserved : goal.loop-token-preserved
loop-token-preserved t c =
    record {
      joins = λ last more. c.loop-token.invariant.joins last (other_joins _ _ _ last c.in_ok-token.ensures (sym c.is_open.ensures ∙ c.if-is_open.false) (sym c.is_close.ensures ∙ c.if-is_close.false) more);
      takes = λ stack. c.loop-token.invariant.takes stack ∙ other_taken _ _ stack _ _ c.in_ok-token.ensures (sym c.is_open.ensures ∙ c.if-is_open.false) (sym c.is_close.ensures ∙ c.if-is_close.false);
    }
