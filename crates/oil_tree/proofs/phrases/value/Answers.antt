use Rattle.oil_tree.proofs.ShortPhrases.{value_word, value_quoted, value_number, value_plus, value_minus}
use Rattle.oil_tree.proofs.phrases.value.Goals as goal

pub returns-in_ok-name-in-Name : goal.returns-in_ok-name-in-Name
returns-in_ok-name-in-Name c = value_word _ _ _ _ _ c.in_ok-token.ensures c.in-Name.is c.in_ok-name-in-Name.ensures

pub returns-in_ok-seq-in-Text : goal.returns-in_ok-seq-in-Text
returns-in_ok-seq-in-Text c = value_quoted _ _ _ _ _ c.in_ok-token.ensures c.in-Text.is c.in_ok-seq-in-Text.ensures

pub returns-in-Number : goal.returns-in-Number
returns-in-Number c = value_number _ _ _ _ c.in_ok-token.ensures c.in-Number.is

pub returns-in_ok-value-in-Mark-Plus : goal.returns-in_ok-value-in-Mark-Plus
returns-in_ok-value-in-Mark-Plus c = value_plus _ _ _ _ _ _ _ c.in_ok-token.ensures c.in-Mark-Plus.is (rw c.in-Mark-Plus.is at c.in-Mark-Plus.field-0-is) c.in_ok-value-in-Mark-Plus.ensures.1

pub returns-in_ok-value-in-Mark-Minus : goal.returns-in_ok-value-in-Mark-Minus
returns-in_ok-value-in-Mark-Minus c = value_minus _ _ _ _ _ _ _ c.in_ok-token.ensures c.in-Mark-Minus.is (rw c.in-Mark-Minus.is at c.in-Mark-Minus.field-0-is) c.in_ok-value-in-Mark-Minus.ensures.1
