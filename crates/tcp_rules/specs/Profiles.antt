-- The profiles that an operator can choose.
use Rattle.tcp_rules.specs.Profile.{Profile, plain, wan}
use Rattle.tcp_rules.specs.declared.profile.Profile.{Profile as Chosen}
use Rattle.tcp_rules.specs.declared.profile.Profile.TheVariants.{Plain, Wan}

abbrev pub profile_of : Chosen → Profile
profile_of Plain = plain
profile_of Wan = wan
