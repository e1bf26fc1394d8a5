-- Addresses with the names under which they are known, and what those of one host share.
--     IsNamed text n      the text is an address, and n has it with its names
--     IsSite s      what the addresses of one host share
--     is_plain_path path      a path that needs no parser
use Rattle.std.specs.Prelude.{◌≡◌, ℕ, Bool, true, false, not, ◌&&◌, ◌||◌, ◌==◌, nat_le, List, [], ◌∷◌, ◌++◌, string_bytes}
use Rattle.std.specs.List.{list_all, slice_split}
use Rattle.crawl_kinds.specs.Address.{IsUri, IsUriOf}
use Rattle.url.specs.declared.slicing.Position.TheVariants.{BeforeScheme, BeforeUsername, AfterHost, AfterPort, BeforePath}
use Rattle.url.specs.Ascii.{slash}
use Rattle.url.specs.Host.{host_map, host_text}
use Rattle.url.specs.Parts.{Parts, host_or_empty, text_between}
use Rattle.uri_spec.specs.Key.{key_text, name_without_www}
use Rattle.uri_spec.specs.Surt.{class_of, class_text}
use Rattle.uri_form.specs.declared.named.Named.{Named}
use Rattle.uri_form.specs.declared.site.Site.{Site}

-- an address, with its canonical key and its class
pub record IsNamed (text : List ℕ) (named : Named) : Type 0 where
  pub address : IsUri text
  pub uri : named.uri ≡ text
  pub key : named.key ≡ key_text text
  pub class : named.class ≡ class_text text

-- the scheme, the host without its `www`, and the port
abbrev pub key_head : Parts → List ℕ
key_head url =
    (text_between url BeforeScheme BeforeUsername ++ host_text (host_map name_without_www (host_or_empty url))) ++ text_between url AfterHost AfterPort

-- what stands before the path of an address, of it and of its key, and its class
pub record IsSite (site : Site) : Type 0 where
  pub text : List ℕ
  pub url : Parts
  pub reads : IsUriOf text url
  pub head : string_bytes site.head ≡ text_between url BeforeScheme BeforePath
  pub key_head : string_bytes site.key_head ≡ key_head url
  pub class : site.class ≡ class_of url

-- a letter, a digit, `-`, `_`, `~` or `.`
abbrev pub is_plain_byte : ℕ → Bool
is_plain_byte b =
    (nat_le 97 b && nat_le b 122) || ((nat_le 65 b && nat_le b 90) || ((nat_le 48 b && nat_le b 57) || (b == 45 || (b == 95 || (b == 126 || b == 46)))))

-- no dot is in front
abbrev pub is_plain_segment : List ℕ → Bool
is_plain_segment [] = true
is_plain_segment (b ∷ bytes) = not (b == 46) && list_all is_plain_byte (b ∷ bytes)

-- such segments, each behind a `/`
abbrev pub is_plain_path : List ℕ → Bool
is_plain_path [] = false
is_plain_path (b ∷ bytes) = b == slash && list_all is_plain_segment (slice_split (λ b. b == slash) bytes)
