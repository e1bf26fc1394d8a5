-- The worked examples, computed.
use Rattle.std.proofs.Common.{refl, lit<, lit≤, All, codes, [], ◌∷◌}
use Rattle.std.proofs.lemmas.List.Elements.{All-cons, All-nil}
use Rattle.std.specs.Char.{is_ascii_digit}
use Rattle.url.proofs.InputLemmas.{All_from_list_all}
use Rattle.httparse.specs.Grammar.{Field, crlf, IsField, is_token_byte, is_value_byte}
use Rattle.url.proofs.OnLiterals.{url_on_literals}
use Rattle.httparse.proofs.OnLiterals.{httparse_on_literals}
use Rattle.page_spec.specs.Worked.{ArePeers, AreRequests, AreResponses, head_with, response_with}
use Rattle.page_spec.specs.Response.{IsWholeOf}

pub requests : AreRequests
unfolding url_on_literals
requests = record {
  plain = refl;
  query = refl;
  empty_query = refl;
  port = refl;
  user = refl;
  address = refl;
  proxy = refl;
  host = refl;
  port_number = refl;
  port_default = refl;
  scheme = refl;
}

pub peers : ArePeers
unfolding url_on_literals
peers = record {
  own_host = refl;
  own_port = refl;
  proxy_host = refl;
  proxy_port = refl;
  no_colon = refl;
  no_port = refl;
  no_number = refl;
  greatest = refl;
  too_great = refl;
  plain = refl;
  alone = refl;
  through = refl;
}

only : Field
only = record { name = codes "Content-Length"; raw = codes " 2"; end = crlf }

fields_pass : All IsField (only ∷ [])
unfolding httparse_on_literals only
fields_pass = All-cons IsField only [] (record {
  name = (lit< tt, All_from_list_all is_token_byte (codes "Content-Length") refl);
  raw = All_from_list_all is_value_byte (codes " 2") refl;
}) (All-nil IsField)

whole_response : IsWholeOf 40 (response_with (codes "Content-Length: 2") (codes "hi")) (head_with (codes "Content-Length") (codes " 2")) (codes "hi")
unfolding httparse_on_literals only
whole_response = record {
  head = record {
    reads = (
      record {
        minor = lit≤ tt;
        digits = (refl, All_from_list_all is_ascii_digit (codes "200") refl);
        reason = All_from_list_all is_value_byte (codes "OK") refl;
        fields = fields_pass;
      },
      refl,
    );
    few = lit≤ tt;
    short = lit≤ tt;
  };
  counted = refl;
  within = lit≤ tt;
}

pub responses : AreResponses
unfolding httparse_on_literals
responses = record {
  whole = whole_response;
  one = refl;
  two = refl;
  coded = refl;
  signed = refl;
  long = refl;
  missing = refl;
  before = refl;
  no_content = refl;
  not_modified = refl;
  not_found = refl;
  last = refl;
  behind = refl;
  media_plain = refl;
  media_param = refl;
  media_bad = refl;
  media_empty = refl;
  media_blank = refl;
  media_slashes = refl;
  media_none = refl;
}
