use Rattle.warc_record.proofs.date.date_text.Goals as goal

pub returns : goal.returns
returns c = record {
  utc = c.utc_of.result;
  passed = c.utc_of.ensures;
  written = c.utc_text.ensures;
}
