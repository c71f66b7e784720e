mod Wired
