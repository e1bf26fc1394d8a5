-- Numbers with a meaning: the codes of ends that are no HTTP status, and the letters of a discovery path.
use Rattle.std.specs.Prelude.{ℕ, ℤ, pos, negsuc}

-- no code: nothing caused this end
abbrev pub no_cause : ℤ
no_cause = pos 0

-- -2: the connection was refused
abbrev pub refused : ℤ
refused = negsuc 1

-- -3: the connection was lost
abbrev pub lost : ℤ
lost = negsuc 2

-- -4: the peer took too long
abbrev pub timed_out : ℤ
timed_out = negsuc 3

-- -7: the scheme can't be fetched
abbrev pub unsupported : ℤ
unsupported = negsuc 6

-- -8: every try was in vain
abbrev pub too_many_tries : ℤ
too_many_tries = negsuc 7

-- -50: the robots file is needed first
abbrev pub robots_needed : ℤ
robots_needed = negsuc 49

-- -61: the robots file could not be fetched
abbrev pub robots_unreachable : ℤ
robots_unreachable = negsuc 60

-- -404: the bytes that came have no whole response head
abbrev pub no_head : ℤ
no_head = negsuc 403

-- -9998: the robots file forbids it
abbrev pub robots_precluded : ℤ
robots_precluded = negsuc 9997

-- E: an embed
abbrev pub embed_letter : ℕ
embed_letter = 69

-- P: a prerequisite
abbrev pub prerequisite_letter : ℕ
prerequisite_letter = 80

-- R: a redirect
abbrev pub redirect_letter : ℕ
redirect_letter = 82
