use Rattle.image_codec.proofs.{EntryFaults.{header_faults, entry_faults}, BlockFaults.{blocks_faults, image_faults}}
use Rattle.image_codec.proofs.laws.first_fault_by_fields.Goals as goal

pub returns-clause-header : goal.returns-clause-header
returns-clause-header c = header_faults

pub returns-clause-entries : goal.returns-clause-entries
returns-clause-entries c = entry_faults

pub returns-clause-blocks : goal.returns-clause-blocks
returns-clause-blocks c = blocks_faults

pub returns-clause-image : goal.returns-clause-image
returns-clause-image c = image_faults
