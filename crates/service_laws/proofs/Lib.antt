mod CrashRun
