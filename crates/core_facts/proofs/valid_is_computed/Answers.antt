use Rattle.core_facts.proofs.Validity.{uri_to, address_to, item_to, add_to, adds_to, event_to, event_back, ends, uri_reads}
use Rattle.core_facts.proofs.valid_is_computed.Goals as goal

pub returns : goal.returns
returns c =
    record {
      uri = uri_to;
      address = address_to;
      item = item_to;
      add = add_to;
      adds = adds_to;
      event = event_to;
      ends = ends;
      back = event_back;
      reads = uri_reads;
    }
