use Rattle.table_codec.proofs.ShortTables.{short_is_spellable}
use Rattle.table_codec.proofs.laws.short_is_spellable.Goals as goal

pub returns : goal.returns
returns c = λ app table written short. short_is_spellable app table written short
