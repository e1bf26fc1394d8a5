use Rattle.warc_record.proofs.Groups.{base32-group}
use Rattle.warc_record.proofs.base32.group_number.Goals as goal

pub returns : goal.returns
returns c = rw c.from_be_bytes.ensures (base32-group c.args.bytes.now c.requires)
